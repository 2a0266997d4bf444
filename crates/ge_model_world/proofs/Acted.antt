-- What a daemon does keeps what holds of a world.
use Rattle.std.proofs.Common.{◌≡◌, ◌⊎◌, inl, inr, ⊎_elim, ℕ, ◌<◌, ◌≤◌, Bool, true, false, if◌then◌else◌, List, [], ◌∷◌, ◌++◌, map, fold, Option, Some, None, Ok, Err, Result, refl, ap, sym, ◌∙◌, subst, arith}
use Rattle.std.specs.Prelude.{◌==◌, ◌&&◌, nat_eq, slice_get, slice_set}
use Rattle.std.specs.BTreeMap.{is_at}
use Rattle.std.specs.Ordering.{nat_cmp}
use Rattle.std.specs.List.{IsDistinct}
use Rattle.std.proofs.lemmas.Bool.{eqb-true}
use Rattle.ge_limits.specs.Limits as limit
use Rattle.ge_collections.specs.Keyed.{at_number, drop_number}
use Rattle.ge_collections.specs.Changed.{change_value}
use Rattle.ge_model_rows.specs.EventRows.{Reply}
use Rattle.ge_model_rows.specs.ClusterRows.{Cluster}
use Rattle.ge_model_jobs.specs.Orderly.{KeysFrom}
use Rattle.ge_model_jobs.proofs.Keys.{drop_rises}
use Rattle.ge_execd.specs.declared.rows.OrderLine.{OrderLine}
use Rattle.ge_execd.specs.declared.rows.Stage.{Stage}
use Rattle.ge_execd.specs.declared.daemon.Daemon.{Daemon}
use Rattle.ge_execd.specs.declared.rows.Stage.TheVariants.{Claimed, Ended}
use Rattle.ge_execd.specs.declared.rows.WorkFault.{WorkFault}
use Rattle.ge_execd.specs.Orders.{orders_in, line_serial}
use Rattle.ge_execd.specs.Daemons.{seen_with, end_with, after_end, is_ended, settles, after_answer, may_end}
use Rattle.ge_model_world.specs.declared.rows.Message.{Message}
use Rattle.ge_model_world.specs.declared.rows.Report.{Report}
use Rattle.ge_model_world.specs.declared.rows.Act.{Act}
use Rattle.ge_model_world.specs.Masters.{Master}
use Rattle.ge_model_world.specs.declared.rows.World.{World}
use Rattle.ge_model_world.specs.declared.rows.Message.TheVariants.{Orders, Answer}
use Rattle.ge_model_world.specs.declared.rows.Act.TheVariants.{Deliver, Finish}
use Rattle.ge_model_world.specs.Worlds.{Acted, obeying, taking, delivered, acted, cut_short, starts_at, with_acted, acting, cutting}
use Rattle.ge_model_world.specs.Laws.{Has, Post, started_serial}
use Rattle.ge_model_world.proofs.Lists.{has_append, has_at, has_map, has_drop, get_set, get_set_same, map_append, distinct_append, distinct_none, distinct_take, has_take, has_change, change_rises}
use Rattle.ge_model_world.proofs.Orders.{IsMade, IsNewRow, orders_rise, read_rise, rise_has, orders_row, seen_grows, seen_has, started_order, starts_distinct}
use Rattle.ge_model_world.proofs.Got.{Got}
use Rattle.ge_model_world.proofs.Kept.{Holds, IsKept, IsOfDaemon, FitsStage, told_end}

-- a daemon after an act: it has its host, has seen what it had seen, keeps what was named to it, and starts serials above what it had seen
pub record Acts (sent : List (ℕ × Message)) (place : ℕ) (before : Daemon) (a : Acted) : Type 0 where
  pub host : a.0.host ≡ before.host
  pub grows : before.seen ≤ a.0.seen
  pub rows : KeysFrom 0 a.0.tasks
  pub keeps : (s : ℕ) (stage : Stage) → Has (s, stage) a.0.tasks → IsKept sent place a.0.seen s stage
  -- a serial that was seen keeps its stage, or loses it, or ends where it was claimed
  pub ends : (s : ℕ) (stage : Stage) → s ≤ before.seen → Has (s, stage) a.0.tasks → Has (s, stage) before.tasks ⊎ Has (s, Claimed) before.tasks
  pub started : (s : ℕ) → Has s a.1 → Got sent place s × (before.seen < s) × (s ≤ a.0.seen)
  pub different : IsDistinct nat_eq a.1

-- a serial that was named is in range
got_below : {sent : List (ℕ × Message)} {daemon serial : ℕ} → Got sent daemon serial → serial ≤ limit.last_serial
got_below got = subst (λ n. n ≤ limit.last_serial) got.same (rise_has got.order (read_rise got.reply got.orders got.read) got.in_it).1

-- of its starts the first alone
cut_acts : {sent : List (ℕ × Message)} {place : ℕ} {before : Daemon} {a : Acted} (starts : Option ℕ) → Acts sent place before a → Acts sent place before (cut_short starts a)
cut_acts None acts = acts
cut_acts {a = a} (Some n) acts = record {
  host = acts.host;
  grows = acts.grows;
  rows = acts.rows;
  keeps = acts.keeps;
  ends = acts.ends;
  started = λ s h. acts.started s (has_take n a.1 s h);
  different = distinct_take n a.1 acts.different;
}

starts_serials : (place : ℕ) (serials : List ℕ) → map started_serial (map (λ serial. (place, serial)) serials) ≡ serials
starts_serials place [] = refl
starts_serials place (s ∷ ss) = ap (λ xs. s ∷ xs) (starts_serials place ss)

module _ (m : Master) (IsSound : Cluster → Type 0) (next : Cluster → ℕ) (posts : Cluster → List Post) (hosts : List (List ℕ)) where
  module _ (w : World) (place : ℕ) (before : Daemon) (is : slice_get w.daemons place ≡ Some before) (a : Acted) (holds : Holds m IsSound next posts hosts w) (acts : Acts w.sent place before a) where
    -- a daemon of the world after the act is the one that acted, or was there
    there_is : (d : ℕ) (daemon : Daemon) → slice_get (slice_set w.daemons place a.0) d ≡ Some daemon → ((d ≡ place) × (daemon ≡ a.0)) ⊎ (slice_get w.daemons d ≡ Some daemon)
    there_is d daemon at = get_set w.daemons place d a.0 at

    start_new : (d s : ℕ) → Has {X = ℕ × ℕ} (d, s) (map (λ serial. (place, serial)) a.1) → (d ≡ place) × Has s a.1
    start_new d s h =
        let found = has_map (λ serial. (place, serial)) a.1 h in
        (ap (λ x. x.0) (sym found.2), subst (λ n. Has n a.1) (ap (λ x. x.1) found.2) found.1)

    -- what was started before was seen, and is still
    seen_old : (d s : ℕ) (daemon : Daemon) → Has (d, s) w.started → ((d ≡ place) × (daemon ≡ a.0)) ⊎ (slice_get w.daemons d ≡ Some daemon) → s ≤ daemon.seen
    seen_old d s daemon h (inl new) =
        let seen : s ≤ before.seen = holds.begun_seen d s before h (subst (λ k. slice_get w.daemons k ≡ Some before) (sym new.0) is) in
        let more : before.seen ≤ a.0.seen = acts.grows in
        subst (λ x. s ≤ x.seen) (sym new.1) (omega arith)
    seen_old d s daemon h (inr old) = holds.begun_seen d s daemon h old

    seen_new : (d s : ℕ) (daemon : Daemon) → (d ≡ place) × Has s a.1 → slice_get (slice_set w.daemons place a.0) d ≡ Some daemon → s ≤ daemon.seen
    seen_new d s daemon start at =
        let here : slice_get (slice_set w.daemons place a.0) place ≡ Some daemon = subst (λ k. slice_get (slice_set w.daemons place a.0) k ≡ Some daemon) start.0 at in
        let now : slice_get (slice_set w.daemons place a.0) place ≡ Some a.0 = get_set_same w.daemons place a.0 is in
        let same : a.0 ≡ daemon = cc in
        subst (λ x. s ≤ x.seen) same (acts.started s start.1).2

    -- what is started now wasn't before
    apart : (n : ℕ) → Has n (map started_serial w.started) → Has n a.1 → ⊥
    apart n old new =
        let found = has_map started_serial w.started old in
        let start = acts.started n new in
        let had : Has (found.0.0, n) w.started = subst (λ k. Has (found.0.0, k) w.started) found.2 found.1 in
        let here : found.0.0 ≡ place = holds.alone found.0.0 place n (holds.begun found.0.0 n had) start.0 in
        let seen : n ≤ before.seen = holds.begun_seen found.0.0 n before had (subst (λ k. slice_get w.daemons k ≡ Some before) (sym here) is) in
        absurd (omega (arith, seen, start.1))

    -- reports tell still what is kept
    told_still : (r : Report) (daemon : Daemon) → Has r w.reports → ((r.daemon ≡ place) × (daemon ≡ a.0)) ⊎ (slice_get w.daemons r.daemon ≡ Some daemon) → IsOfDaemon r daemon
    told_still r daemon h (inr old) = holds.told r daemon h old
    told_still r daemon h (inl new) = subst (λ x. IsOfDaemon r x) (sym new.1) now
      where
        of : IsOfDaemon r before
        of = holds.told r before h (subst (λ k. slice_get w.daemons k ≡ Some before) (sym new.0) is)

        now : IsOfDaemon r a.0
        now = record {
          in_sight = let seen : r.serial ≤ before.seen = of.in_sight in let more : before.seen ≤ a.0.seen = acts.grows in omega arith;
          kept = λ stage g. ⊎_elim (λ old. of.kept stage old) (λ claimed. let never : Claimed ≡ told_end r = of.kept Claimed claimed in absurd (cc)) (acts.ends r.serial stage of.in_sight g);
        }

    pub with_acted_holds : Holds m IsSound next posts hosts (with_acted w place a)
    with_acted_holds = record {
      sound = holds.sound;
      daemons = λ d daemon at. ⊎_elim
          (λ new. subst (λ x. slice_get hosts d ≡ Some x) (sym acts.host ∙ ap (λ x. x.host) (sym new.1)) (subst (λ k. slice_get hosts k ≡ Some before.host) (sym new.0) (holds.daemons place before is)))
          (λ old. holds.daemons d daemon old) (there_is d daemon at);
      below = holds.below;
      home = holds.home;
      alone = holds.alone;
      keeps = λ d daemon s stage at h. ⊎_elim
          (λ new. subst (λ k. IsKept w.sent k daemon.seen s stage) (sym new.0) (subst (λ x. IsKept w.sent place x.seen s stage) (sym new.1) (acts.keeps s stage (subst (λ x. Has (s, stage) x.tasks) new.1 h))))
          (λ old. holds.keeps d daemon s stage old h) (there_is d daemon at);
      rows = λ d daemon at. ⊎_elim (λ new. subst (λ x. KeysFrom 0 x.tasks) (sym new.1) acts.rows) (λ old. holds.rows d daemon old) (there_is d daemon at);
      begun = λ d s h. ⊎_elim (λ old. holds.begun d s old)
          (λ new. let n = start_new d s new in subst (λ k. Got w.sent k s) (sym n.0) (acts.started s n.1).0) (has_append w.started (starts_at place a.1) h);
      begun_seen = λ d s daemon h at. ⊎_elim (λ old. seen_old d s daemon old (there_is d daemon at))
          (λ new. seen_new d s daemon (start_new d s new) at) (has_append w.started (starts_at place a.1) h);
      started = subst (λ ns. IsDistinct nat_eq ns) (sym (map_append started_serial w.started (starts_at place a.1) ∙ ap (λ ns. map started_serial w.started ++ ns) (starts_serials place a.1)))
          (distinct_append (map started_serial w.started) a.1 holds.started acts.different apart);
      sent = holds.sent;
      told = λ r daemon h at. told_still r daemon h (there_is r.daemon daemon at);
      agree = holds.agree;
      over = holds.over;
      finished = holds.finished;
      lines = holds.lines;
    }

-- ---- what a daemon does

-- before an act
module _ (m : Master) (IsSound : Cluster → Type 0) (next : Cluster → ℕ) (posts : Cluster → List Post) (hosts : List (List ℕ)) (w : World) (holds : Holds m IsSound next posts hosts w)
    (place : ℕ) (d : Daemon) (is : slice_get w.daemons place ≡ Some d) where
  kept_now : (s : ℕ) (stage : Stage) → Has (s, stage) d.tasks → IsKept w.sent place d.seen s stage
  kept_now s stage h = holds.keeps place d s stage is h

  -- it does nothing
  pub idle : Acts w.sent place d (d, [])
  idle = record {
    host = refl;
    grows = omega arith;
    rows = holds.rows place d is;
    keeps = kept_now;
    ends = λ s stage seen h. inl h;
    started = λ s h. elim h [ ];
    different = distinct_none;
  }

  -- it obeys the orders of a reply that was sent to it
  pub obeys : (reply : Reply) → Has (place, Orders reply) w.sent → (read : Result (List OrderLine) WorkFault) → orders_in reply ≡ read → Acts w.sent place d (obeying d read)
  obeys reply was (Err fault) read = idle
  obeys reply was (Ok orders) read = record {
    host = refl;
    grows = seen_grows d.seen orders;
    rows = orders_rise d.seen d.tasks orders (holds.rows place d is);
    keeps = λ s stage h. ⊎_elim
        (λ old. let k = kept_now s stage old in
        let seen : s ≤ d.seen = k.in_sight in
        let more : d.seen ≤ fold seen_with d.seen orders = seen_grows d.seen orders in
        record { got = k.got; in_sight = omega (arith, seen, more); fits = k.fits })
        (λ new. record { got = named new.order new.in_it s new.same; in_sight = subst (λ n. n ≤ fold seen_with d.seen orders) new.same (seen_has d.seen orders new.order new.in_it); fits = made_fits s stage new })
        (orders_row d.seen d.tasks orders s stage h);
    ends = λ s stage seen h. ⊎_elim (λ old. inl old) (λ new. let above : d.seen < s = new.above in absurd (omega (arith, seen, above))) (orders_row d.seen d.tasks orders s stage h);
    started = λ s h. let found = started_order d.seen orders s h in
        (named found.0 found.1 s found.2, found.3, subst (λ n. n ≤ fold seen_with d.seen orders) found.2 (seen_has d.seen orders found.0 found.1));
    different = starts_distinct d.seen orders (read_rise reply orders read);
  }
    where
      named : (o : OrderLine) → Has o orders → (s : ℕ) → line_serial o ≡ s → Got w.sent place s
      named o h s same = record { reply = reply; orders = orders; order = o; was = was; read = read; in_it = h; same = same }

      by : (s : ℕ) (stage : Stage) → s ≤ limit.last_serial → IsMade stage → FitsStage s stage
      by s stage below (inl is) = subst (λ x. FitsStage s x) (sym is) tt
      by s stage below (inr is) = subst (λ x. FitsStage s x) (sym is) (record { in_range = below; amounts = refl })

      made_fits : (s : ℕ) (stage : Stage) → IsNewRow d.seen orders s stage → FitsStage s stage
      made_fits s stage new = by s stage (subst (λ n. n ≤ limit.last_serial) new.same (rise_has new.order (read_rise reply orders read) new.in_it).1) new.made

  -- it forgets an end that was answered
  pub forgets : (serial : ℕ) (reply : Reply) → Acts w.sent place d (after_answer d serial reply, [])
  forgets serial reply = by (settles reply.code && is_ended (at_number d.tasks serial))
    where
      by : (b : Bool) → Acts w.sent place d (if b then record d { tasks = drop_number d.tasks serial } else d, [])
      by false = idle
      by true = record {
        host = refl;
        grows = omega arith;
        rows = drop_rises serial 0 d.tasks (holds.rows place d is);
        keeps = λ s stage h. kept_now s stage (has_drop d.tasks serial h);
        ends = λ s stage seen h. inl (has_drop d.tasks serial h);
        started = λ s h. elim h [ ];
        different = distinct_none;
      }

  -- a task of its ends
  pub finishes : (serial exit cpu mem io : ℕ) → Acts w.sent place d (if may_end exit cpu mem io then after_end d serial (Ended exit cpu mem io) else d, [])
  finishes serial exit cpu mem io = by (may_end exit cpu mem io) refl
    where
      was : (s : ℕ) (stage : Stage) → Has {X = ℕ × Stage} (s, stage) (change_value (is_at (nat_cmp serial)) (end_with (Ended exit cpu mem io)) d.tasks)
          → Has {X = ℕ × Stage} (s, stage) d.tasks ⊎ ((u : Stage) × Has {X = ℕ × Stage} (s, u) d.tasks × (stage ≡ end_with (Ended exit cpu mem io) u))
      was s stage h = has_change (is_at (nat_cmp serial)) (end_with (Ended exit cpu mem io)) d.tasks s stage h

      -- a row that was changed was claimed, or is as it was
      claimed : (s : ℕ) (stage u : Stage) → Has {X = ℕ × Stage} (s, u) d.tasks → stage ≡ end_with (Ended exit cpu mem io) u
          → Has {X = ℕ × Stage} (s, stage) d.tasks ⊎ (Has {X = ℕ × Stage} (s, Claimed) d.tasks × (stage ≡ Ended exit cpu mem io))
      claimed s stage Claimed h is = inr (h, is)
      claimed s stage (Ended x c b o) h is = inl (subst (λ y. Has {X = ℕ × Stage} (s, y) d.tasks) (sym is) h)

      old_or : (s : ℕ) (stage : Stage) → Has {X = ℕ × Stage} (s, stage) (change_value (is_at (nat_cmp serial)) (end_with (Ended exit cpu mem io)) d.tasks)
          → Has {X = ℕ × Stage} (s, stage) d.tasks ⊎ (Has {X = ℕ × Stage} (s, Claimed) d.tasks × (stage ≡ Ended exit cpu mem io))
      old_or s stage h = ⊎_elim (λ old. inl old) (λ c. claimed s stage c.0 c.1 c.2) (was s stage h)

      new : (s : ℕ) (stage : Stage) → may_end exit cpu mem io ≡ true → Has {X = ℕ × Stage} (s, Claimed) d.tasks → stage ≡ Ended exit cpu mem io → IsKept w.sent place d.seen s stage
      new s stage fits h is =
          let before : IsKept w.sent place d.seen s Claimed = kept_now s Claimed h in
          subst (λ x. IsKept w.sent place d.seen s x) (sym is) (record { got = before.got; in_sight = before.in_sight; fits = record { in_range = got_below before.got; amounts = fits } })

      by : (b : Bool) → may_end exit cpu mem io ≡ b → Acts w.sent place d (if b then after_end d serial (Ended exit cpu mem io) else d, [])
      by false fits = idle
      by true fits = record {
        host = refl;
        grows = omega arith;
        rows = change_rises 0 (is_at (nat_cmp serial)) (end_with (Ended exit cpu mem io)) d.tasks (holds.rows place d is);
        keeps = λ s stage h. ⊎_elim (λ old. kept_now s stage old) (λ c. new s stage fits c.0 c.1) (old_or s stage h);
        ends = λ s stage seen h. ⊎_elim (λ old. inl old) (λ c. inr c.0) (old_or s stage h);
        started = λ s h. elim h [ ];
        different = distinct_none;
      }

  -- it takes a message that was sent to it
  pub takes : (message : Message) → Has (place, message) w.sent → Acts w.sent place d (taking d message)
  takes (Orders reply) was = obeys reply was (orders_in reply) refl
  takes (Answer serial reply) was = forgets serial reply

  delivers : (found : Option (ℕ × Message)) → ((sent : ℕ × Message) → found ≡ Some sent → Has sent w.sent) → Acts w.sent place d (delivered place d found)
  delivers None was = idle
  delivers (Some sent) was = by (sent.0 == place) refl
    where
      by : (b : Bool) → (sent.0 == place) ≡ b → Acts w.sent place d (if b then taking d sent.1 else (d, []))
      by true same = takes sent.1 (subst (λ k. Has {X = ℕ × Message} (k, sent.1) w.sent) (eqb-true sent.0 place same) (was sent refl))
      by false same = idle

  pub acts : (act : Act) → Acts w.sent place d (acted w.sent place d act)
  acts (Deliver k) = delivers (slice_get w.sent k) (λ sent at. has_at w.sent k at)
  acts (Finish serial exit cpu mem io) = finishes serial exit cpu mem io

-- a step of a daemon
module _ (m : Master) (IsSound : Cluster → Type 0) (next : Cluster → ℕ) (posts : Cluster → List Post) (hosts : List (List ℕ)) where
  pub acting_holds : (w : World) (place : ℕ) (act : Act) (starts : Option ℕ) (found : Option Daemon) → slice_get w.daemons place ≡ found → Holds m IsSound next posts hosts w → Holds m IsSound next posts hosts (acting w place act starts found)
  acting_holds w place act starts None is holds = holds
  acting_holds w place act starts (Some d) is holds =
      with_acted_holds m IsSound next posts hosts w place d is (cut_short starts (acted w.sent place d act)) holds (cut_acts starts (acts m IsSound next posts hosts w holds place d is act))

  -- that it stopped in
  pub cutting_holds : (w : World) (place : ℕ) (act : Act) (done : Bool) (starts : ℕ) (found : Option Daemon) → slice_get w.daemons place ≡ found → Holds m IsSound next posts hosts w
      → Holds m IsSound next posts hosts (cutting w place act done starts found)
  cutting_holds w place act true starts found is holds = acting_holds w place act (Some starts) found is holds
  cutting_holds w place act false starts found is holds = holds
