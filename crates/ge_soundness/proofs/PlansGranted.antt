-- An advance reservation that is granted takes no limit over what there is, unless more was booked before.
use Rattle.std.proofs.Common.{◌≡◌, ℕ, ◌^◌, ◌<◌, ◌==◌, ◌&&◌, ◌||◌, not, Bool, true, false, cond, List, [], ◌∷◌, fold, flat_map, Option, Some, None, codes, refl, sym, ap, subst, ◌∙◌, arith, Ordering, Less, Equal, Greater}
use Rattle.std.specs.Prelude.{IsTrue}
use Rattle.std.specs.List.{AllByRecursion, list_any}
use Rattle.std.specs.Ordering.{is_eq, nat_cmp, match_ordering, ordering_reverse}
use Rattle.std.proofs.lemmas.Cmp.{nat_list_cmp_total}
use Rattle.std.proofs.lemmas.Map.Lookups.{exact_bytes}
use Rattle.ge_collections.specs.Keyed.{text_cmp, at_text, put_text, drop_text, at_number}
use Rattle.ge_model_rows.specs.ClusterRows.{Cluster}
use Rattle.ge_model_rows.specs.JobRows.{Job, Grant, Advance}
use Rattle.ge_model_rows.specs.ValueRows.{Value}
use Rattle.ge_model_rows.specs.Pieces.{pieces_at, is_empty}
use Rattle.ge_model_jobs.specs.Soundness.{IsAdvance, IsBooked, IsSound, has_advance}
use Rattle.ge_model_jobs.specs.Orderly.{has_key}
use Rattle.ge_model_place.specs.Advances.{advance_grants, IsBookable, KeepsBeside}
use Rattle.ge_model_place.specs.Windows.{runs_in_advance}
use Rattle.ge_model_place.proofs.Granted.{grants_keep}
use Rattle.ge_model_grammar.specs.Options.{Given, option_words}
use Rattle.ge_model_config.specs.Cited.{Read}
use Rattle.ge_model_config.specs.Pairs.{put_value}
use Rattle.ge_model_config.specs.Requests.{asked_read, with_asked, all_asked, request_of}
use Rattle.ge_model_config.proofs.ReadBackTables.{AllAbove, Rises, above_put, above_more}
use Rattle.ge_model_core.specs.JobAdvances.{no_request}

-- ---- what is asked for stands by name

values_put : (name : List ℕ) (value : Value) (rows : List (List ℕ × Value)) → Rises rows → Rises (put_text rows name value)
values_put name value [] all = (tt, tt)
values_put name value (row ∷ rows) (above, all) = by (text_cmp name row.0) refl (values_put name value rows all)
  where
    by : (order : Ordering) → text_cmp name row.0 ≡ order → Rises (put_text rows name value)
        → Rises (match_ordering order ((name, value) ∷ row ∷ rows) ((row.0, value) ∷ rows) (row ∷ put_text rows name value))
    by Less is again = ((is, above_more name row.0 rows is above), (above, all))
    by Equal is again = (above, all)
    by Greater is again = (above_put row.0 name value rows (nat_list_cmp_total.antisymm row.0 name ∙ ap ordering_reverse is) above, again)

asked_put : (rows : List (List ℕ × Value)) (asked : Option (List ℕ × Value)) → Rises rows → Rises (put_value rows asked)
asked_put rows None all = all
asked_put rows (Some pair) all = values_put pair.0 pair.1 rows all

items_rise : (c : Cluster) (items : List (List ℕ)) (asked : Read (List (List ℕ × Value))) → Rises asked.0 → Rises (fold (with_asked c) asked items).0
items_rise c [] asked all = all
items_rise c (item ∷ items) asked all = items_rise c items (with_asked c asked item) (asked_put asked.0 (asked_read c item).0 all)

asked_rise : (c : Cluster) (options : Given) → Rises (request_of c options no_request).0.asked
unfolding request_of
asked_rise c options = by (option_words options (codes "-l"))
  where
    by : (words : Option (List (List ℕ))) → Rises (elim words as (λ x. Read (List (List ℕ × Value))) [ None ↦ ([], []) | Some words ↦ all_asked c words ]).0
    by None = tt
    by (Some words) = items_rise c (flat_map (pieces_at 44) words) ([], []) tt

-- what stands by name has nothing more under a name that is taken out
above_none : (name : List ℕ) (rows : List (List ℕ × Value)) → AllAbove name rows → at_text rows name ≡ None
above_none name [] all = refl
above_none name (row ∷ rows) (less, all) = rw less (above_none name rows all)

dropped_none : (name : List ℕ) (rows : List (List ℕ × Value)) → Rises rows → at_text (drop_text rows name) name ≡ None
dropped_none name [] all = refl
dropped_none name (row ∷ rows) (above, all) = by (text_cmp name row.0) refl (dropped_none name rows all)
  where
    by : (order : Ordering) → text_cmp name row.0 ≡ order → at_text (drop_text rows name) name ≡ None
        → at_text (cond (is_eq order) rows (row ∷ drop_text rows name)) name ≡ None
    by Less is again = rw is again
    by Equal is again = above_none name rows (subst (λ n. AllAbove n rows) (sym (exact_bytes name row.0 is)) above)
    by Greater is again = rw is again

-- ---- numbers of a sound cluster

-- no reservation has the number 0
zero_free : (next : ℕ) (rows : List (ℕ × Advance)) → AllByRecursion (IsAdvance next) rows → at_number rows 0 ≡ None
zero_free next [] all = refl
zero_free next (row ∷ rows) (is, all) = by (nat_cmp 0 row.0) refl (zero_free next rows all)
  where
    by : (order : Ordering) → nat_cmp 0 row.0 ≡ order → at_number rows 0 ≡ None → cond (is_eq order) (Some row.1) (at_number rows 0) ≡ None
    by Less cmp again = again
    by Equal cmp again = absurd (let same : 0 ≡ row.0 = grind arith in omega (arith, same, is.0))
    by Greater cmp again = again

-- a number that is there is below the next one
below_next : (next n : ℕ) (rows : List (ℕ × Advance)) → AllByRecursion (IsAdvance next) rows → has_key n rows ≡ true → n < next
below_next next n [] all has = absurd (grind arith)
below_next next n (row ∷ rows) (is, all) has = by (n == row.0) refl has (below_next next n rows all)
  where
    by : (here : Bool) → (n == row.0) ≡ here → (here || has_key n rows) ≡ true → (has_key n rows ≡ true → n < next) → n < next
    by true same has again = let e : n ≡ row.0 = grind arith in omega (arith, e, is.1)
    by false same has again = again has

-- so no task runs in the next one
none_runs : (c : Cluster) → IsBooked c → list_any (runs_in_advance c.next_advance) c.jobs ≡ false
none_runs c booked = each c.jobs booked.jobs
  where
    apart : (job : ℕ × Job) → IsTrue (has_advance c.advances job) → (job.1.advance == c.next_advance) ≡ false
    apart job has = by (job.1.advance == 0) refl has
      where
        differs : (n m : ℕ) → n < m → (n == m) ≡ false
        differs n m less = grind arith

        by : (none : Bool) → (job.1.advance == 0) ≡ none → (none || has_key job.1.advance c.advances) ≡ true → (job.1.advance == c.next_advance) ≡ false
        by true is has = let e : job.1.advance ≡ 0 = grind arith in differs job.1.advance c.next_advance (omega (arith, e, booked.next))
        by false is has = differs job.1.advance c.next_advance (below_next c.next_advance job.1.advance c.advances booked.advances has)

    neither : (a b rest : Bool) → a ≡ false → rest ≡ false → ((a && b) || rest) ≡ false
    neither a b rest p q = grind arith

    each : (rows : List (ℕ × Job)) → AllByRecursion (λ job. IsTrue (has_advance c.advances job)) rows → list_any (runs_in_advance c.next_advance) rows ≡ false
    each [] all = refl
    each (row ∷ rows) all = neither (row.1.advance == c.next_advance) (not (is_empty row.1.running)) _ (apart row all.0) (each rows all.1)

-- ---- the law

-- a reservation that is asked for, granted slots, in a sound cluster
pub granted_keeps : (c : Cluster) (options : Given) (now : ℕ) (asked : Advance) (grants : List Grant) → asked.request.asked ≡ (request_of c options no_request).0.asked → asked.from < asked.until → asked.until < 2 ^ 40
    → advance_grants c now asked ≡ Some grants → IsSound c → KeepsBeside c now c.next_advance (record asked { grants = grants })
unfolding advance_grants
granted_keeps c options now asked grants same lasts ends granted sound = grants_keep c now c.next_advance (record asked { grants = grants }) bookable (none_runs c sound.booked) granted
  where
    bookable : IsBookable c (record asked { grants = grants })
    bookable = record {
      lasts = lasts;
      ends = ends;
      once = dropped_none (codes "s_rt") asked.request.asked (rw same (asked_rise c options));
      numbered = zero_free c.next_advance c.advances sound.booked.advances;
    }
