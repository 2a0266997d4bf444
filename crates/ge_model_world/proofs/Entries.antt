-- An entry, and messages that name no serial, keep what holds of a world.
use Rattle.std.proofs.Common.{◌≡◌, ⊎_elim, ℕ, ◌<◌, ◌≤◌, Bool, true, false, List, [], ◌∷◌, ◌++◌, map, length, Some, refl, ap, sym, ◌∙◌, subst, arith, true≢false}
use Rattle.std.specs.Prelude.{nat_eq, not}
use Rattle.std.specs.List.{IsDistinct}
use Rattle.ge_model_rows.specs.EventRows.{Event}
use Rattle.ge_model_rows.specs.AccountRows.{Line}
use Rattle.ge_model_rows.specs.ClusterRows.{Cluster}
use Rattle.ge_model_rows.specs.EntryRows.{Entry}
use Rattle.ge_model_world.specs.declared.rows.Report.{Report}
use Rattle.ge_model_world.specs.declared.rows.Finished.{Finished}
use Rattle.ge_model_world.specs.Masters.{Master}
use Rattle.ge_model_world.specs.declared.rows.World.{World}
use Rattle.ge_model_world.specs.declared.rows.Finished.TheVariants.{Reported, Forced}
use Rattle.ge_model_world.specs.Worlds.{is_gone, gone, finish_by, finished_by, with_entry}
use Rattle.ge_model_world.specs.Laws.{Has, Post, post_serial, Laws, IsTold, finished_serial}
use Rattle.ge_model_world.proofs.Lists.{has_append, has_map, map_has, has_filter, map_append, any_has, get_left, distinct_append, distinct_filter}
use Rattle.ge_model_world.proofs.Kept.{Holds, IsOver}

-- an entry's line stands where it was written
pub told_further : (reports : List Report) (lines more : List Line) (f : Finished) → IsTold reports lines f → IsTold reports (lines ++ more) f
told_further reports lines more (Reported serial place) told = (told.0, told.1, told.2, (told.3.0, get_left lines more place told.3.1, told.3.2))
told_further reports lines more (Forced serial) told = tt

finish_serial : (end : Bool) (place serial : ℕ) → finished_serial (finish_by end place serial) ≡ serial
finish_serial true place serial = refl
finish_serial false place serial = refl

finish_serials : (end : Bool) (place : ℕ) (serials : List ℕ) → map finished_serial (map (finish_by end place) serials) ≡ serials
finish_serials end place [] = refl
finish_serials end place (s ∷ ss) = λ i. finish_serial end place s i ∷ finish_serials end place ss i

module _ (m : Master) (IsSound : Cluster → Type 0) (next : Cluster → ℕ) (posts : Cluster → List Post) (IsHost : List ℕ → Type 0) (laws : Laws m IsSound next posts IsHost) (hosts : List (List ℕ)) where
  -- a serial that runs has a host
  running : (c : Cluster) (s : ℕ) → Has s (m.serials c) → (h : List ℕ) × Has (s, h) (posts c)
  running c s h =
      let found = has_map post_serial (posts c) (subst (λ ns. Has s ns) (laws.serials c) h) in
      (found.0.1, subst (λ n. Has (n, found.0.1) (posts c)) found.2 found.1)

  runs : (c : Cluster) (s : ℕ) (h : List ℕ) → Has (s, h) (posts c) → Has s (m.serials c)
  runs c s h p = subst (λ ns. Has s ns) (sym (laws.serials c)) (map_has post_serial (posts c) p)

  -- a serial that is gone ran before, and doesn't after
  left : (c : Cluster) (entry : Entry) (s : ℕ) → Has s (gone (m.serials c) (m.serials (m.after c entry))) → Has s (m.serials c) × (Has s (m.serials (m.after c entry)) → ⊥)
  left c entry s h =
      let found = has_filter (is_gone (m.serials (m.after c entry))) (m.serials c) h in
      (found.0, λ again. true≢false (sym found.1 ∙ ap not (any_has s (m.serials (m.after c entry)) again)))

  module _ (w : World) (e : Event) (entry : Entry) (planned : (m.plan w.cluster e).entry ≡ Some entry) (holds : Holds m IsSound next posts hosts w)
      (told : (f : Finished) → Has f (finished_by m w.cluster entry) → IsTold w.reports (m.lines (m.after w.cluster entry)) f) where
    c : Cluster
    c = w.cluster

    after : Cluster
    after = m.after w.cluster entry

    new : List Finished
    new = finished_by m w.cluster entry

    finished_new : (f : Finished) → Has f (finished_by m w.cluster entry) → Has (finished_serial f) (gone (m.serials w.cluster) (m.serials (m.after w.cluster entry)))
    finished_new f h =
        let found = has_map (finish_by (m.is_end entry) (length (m.lines w.cluster))) (gone (m.serials w.cluster) (m.serials (m.after w.cluster entry))) h in
        let same : finished_serial f ≡ found.0 = ap finished_serial (sym found.2) ∙ finish_serial (m.is_end entry) (length (m.lines w.cluster)) found.0 in
        subst (λ n. Has n (gone (m.serials w.cluster) (m.serials (m.after w.cluster entry)))) (sym same) found.1

    -- what runs after the entry and was given out before it ran before it
    was : (s : ℕ) (h : List ℕ) → s < next w.cluster → Has (s, h) (posts (m.after w.cluster entry)) → Has (s, h) (posts w.cluster)
    was s h given again = ⊎_elim (λ old. old) (λ late. absurd (omega (arith, given, late))) (laws.stays w.cluster e entry s h holds.sound planned again)

    grown : next w.cluster ≤ next (m.after w.cluster entry)
    grown = laws.grows w.cluster e entry holds.sound planned

    over_new : (f : Finished) → Has f (finished_by m w.cluster entry) → IsOver m IsSound next posts hosts (m.after w.cluster entry) (finished_serial f)
    over_new f h =
        let found = left w.cluster entry (finished_serial f) (finished_new f h) in
        let ran = running w.cluster (finished_serial f) found.0 in
        let given : finished_serial f < next w.cluster = laws.below w.cluster (finished_serial f) ran.0 holds.sound ran.1 in
        record { given = omega (arith, given, grown); gone = λ host p. found.1 (runs (m.after w.cluster entry) (finished_serial f) host p) }

    serials_new : map finished_serial (finished_by m w.cluster entry) ≡ gone (m.serials w.cluster) (m.serials (m.after w.cluster entry))
    serials_new = finish_serials (m.is_end entry) (length (m.lines w.cluster)) (gone (m.serials w.cluster) (m.serials (m.after w.cluster entry)))

    differ : IsDistinct nat_eq (map finished_serial (finished_by m w.cluster entry))
    differ = subst (λ ns. IsDistinct nat_eq ns) (sym serials_new)
        (distinct_filter (is_gone (m.serials (m.after w.cluster entry))) (m.serials w.cluster) (laws.different w.cluster holds.sound))

    apart : (n : ℕ) → Has n (map finished_serial w.finished) → Has n (map finished_serial (finished_by m w.cluster entry)) → ⊥
    apart n old fresh =
        let f = has_map finished_serial w.finished old in
        let gone_now : Has n (gone (m.serials w.cluster) (m.serials (m.after w.cluster entry))) = subst (λ ns. Has n ns) serials_new fresh in
        let ran = running w.cluster n (left w.cluster entry n gone_now).0 in
        (holds.over f.0 f.1).gone ran.0 (subst (λ k. Has (k, ran.0) (posts w.cluster)) (sym f.2) ran.1)

    pub entry_holds : Holds m IsSound next posts hosts (with_entry m w (Some entry))
    entry_holds = record {
      sound = laws.kept w.cluster e entry holds.sound planned;
      daemons = holds.daemons;
      below = λ d s got. let b : s < next w.cluster = holds.below d s got in omega (arith, b, grown);
      home = λ d s h got p. holds.home d s h got (was s h (holds.below d s got) p);
      alone = holds.alone;
      keeps = holds.keeps;
      rows = holds.rows;
      begun = holds.begun;
      begun_seen = holds.begun_seen;
      started = holds.started;
      sent = holds.sent;
      told = holds.told;
      agree = holds.agree;
      over = λ f h. ⊎_elim
          (λ old. let o = holds.over f old in
          let given : finished_serial f < next w.cluster = o.given in
          record { given = omega (arith, given, grown); gone = λ host p. o.gone host (was (finished_serial f) host o.given p) })
          (λ fresh. over_new f fresh) (has_append w.finished (finished_by m w.cluster entry) h);
      finished = subst (λ ns. IsDistinct nat_eq ns) (sym (map_append finished_serial w.finished (finished_by m w.cluster entry)))
          (distinct_append (map finished_serial w.finished) (map finished_serial (finished_by m w.cluster entry)) holds.finished differ apart);
      lines = λ f h. ⊎_elim
          (λ old. let more = laws.lines w.cluster entry in
          subst (λ ls. IsTold w.reports ls f) (sym more.1) (told_further w.reports (m.lines w.cluster) more.0 f (holds.lines f old)))
          (λ fresh. told f fresh) (has_append w.finished (finished_by m w.cluster entry) h);
    }
