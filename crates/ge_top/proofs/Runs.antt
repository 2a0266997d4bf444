-- How far a replay has come, and what each exit leaves.
use Rattle.std.proofs.Common.{◌≡◌, ◌⊎◌, ℕ, suc, ◌+◌, ◌*◌, ◌<◌, ◌≤◌, Bool, true, false, List, [], ◌∷◌, ◌++◌, length, take, drop, Option, Ok, refl, ap, ◌∙◌, sym, subst, append_assoc, arith, inl, inr, ⊎_elim, flat_map}
use Rattle.std.proofs.lemmas.List.{length-append, append-nil, drop-drop}
use Rattle.std.proofs.lemmas.List.Concat.{flat_map-append}
use Rattle.std.proofs.Math.Nat.{suc-mul}
use Rattle.std.proofs.Math.Seq.{take-append-add, take-length, take-append_seam, drop-append_seam}
use Rattle.ge_outside.specs.Streams.{Gains, GainsPrefix, Gains-append}
use Rattle.ge_model_rows.specs.ClusterRows.{Cluster}
use Rattle.ge_model_rows.specs.EntryRows.{Entry}
use Rattle.ge_model_rows.specs.EventRows.{Event, Reply, Planned}
use Rattle.ge_model_journal.specs.Disk.{Content}
use Rattle.ge_model_core.specs.Render.{rendered}
use Rattle.ge_model_program.specs.Traced.{Traced, onto, ends_at, traced}
use Rattle.ge_model_program.specs.StandsFor.{stands_for, StandsForOneOf}
use Rattle.ge_model_program.specs.Runs.{written_of, EachStandsFor, EachStandsForOneOf, Syncs, RanTo, RanCut, RanAll, RanFull}
use Rattle.ge_model_program.specs.Keeping.{Ledger, FitsBatch, HasNoRoom, next_ledger, ledger_after, BatchesFit}
use Rattle.ge_serve.proofs.Staged.{onto-onto, onto-end}
use Rattle.ge_top.proofs.Fitting.{nothing-fits, last-fits, full-fits, full-ledger}
use Rattle.ge_top.proofs.Held.{Gains-nothing}
use Rattle.ge_top.proofs.TracedBatches.{traced-batch, traced-alone}

-- one batch more than some
one_more : (k size : ℕ) → (k + 1) * size ≡ k * size + size
one_more k size = let next : k + 1 ≡ suc k = omega arith in ap (λ n. n * size) next ∙ suc-mul k size

module _ (plan : Cluster → Event → Planned) (start : Cluster) (events : List Event) (old : Option (List ℕ)) (size before : ℕ) (origin : Ledger) where
  -- The replies to the events of full batches are written, and what the rest gives from the cluster that was reached is what is missing. All
  -- batches fit where those of the rest do, from the ledger that was reached.
  pub record HasRun (now : Option (List ℕ)) (later : ℕ) (ledger : Ledger) (reached : Cluster) (rest : List Event) : Type 0 where
    pub marks : List Bool
    pub replies : List Reply
    pub entries : List Entry
    pub counted : length marks + length rest ≡ length events
    pub dropped : drop (length marks) events ≡ rest
    pub goes_on : (more : List Bool) → traced plan start events (marks ++ more) ≡ onto replies entries (traced plan reached rest more)
    pub wrote : Gains old now (flat_map rendered replies)
    pub batches : ℕ
    pub begun : batches * size < length marks + size
    pub full : length marks ≡ batches * size
    pub few : later ≤ before + 3 * batches
    pub keeps : (more : List Bool) (k j : ℕ) → j ≡ batches + k → ledger_after plan size j origin start events (marks ++ more) ≡ ledger_after plan size k ledger reached rest more
    pub fits : (more : List Bool) (k : ℕ) → ((j : ℕ) → BatchesFit plan size j ledger reached rest more) → BatchesFit plan size k origin start events (marks ++ more)

  -- the trace so far
  so-far : (now : Option (List ℕ)) (later : ℕ) (ledger : Ledger) (reached : Cluster) (rest : List Event) (run : HasRun now later ledger reached rest)
      → traced plan start events run.marks ≡ record { replies = run.replies; entries = run.entries; cluster = reached; stopped = false }
  so-far now later ledger reached rest run =
      ap (traced plan start events) (sym (append-nil run.marks)) ∙ run.goes_on [] ∙ ends reached rest ∙ onto-end run.replies run.entries false reached
    where
      ends : (c : Cluster) (rest : List Event) → onto run.replies run.entries (traced plan c rest []) ≡ onto run.replies run.entries (ends_at false c)
      ends c [] = refl
      ends c (e ∷ rest) = refl

  -- and what the journal keeps of it
  ledger-so-far : (now : Option (List ℕ)) (later : ℕ) (ledger : Ledger) (reached : Cluster) (rest : List Event) (run : HasRun now later ledger reached rest)
      → ledger_after plan size run.batches origin start events run.marks ≡ ledger
  ledger-so-far now later ledger reached rest run =
      ap (ledger_after plan size run.batches origin start events) (sym (append-nil run.marks)) ∙ run.keeps [] 0 run.batches (omega arith)

  -- and it fits
  fits-so-far : (now : Option (List ℕ)) (later : ℕ) (ledger : Ledger) (reached : Cluster) (rest : List Event) (run : HasRun now later ledger reached rest) (k : ℕ)
      → BatchesFit plan size k origin start events run.marks
  fits-so-far now later ledger reached rest run k =
      subst (λ xs. BatchesFit plan size k origin start events xs) (append-nil run.marks) (run.fits [] k (λ j. nothing-fits plan size j ledger reached rest))

  -- no batch is in hand
  syncs-so-far : (now : Option (List ℕ)) (later : ℕ) (ledger : Ledger) (reached : Cluster) (rest : List Event) (run : HasRun now later ledger reached rest) → Syncs size (length run.marks) before later
  syncs-so-far now later ledger reached rest run = record { batches = run.batches; begun = run.begun; few = run.few }

  -- one batch more
  module _ (now after : Option (List ℕ)) (later last : ℕ) (ledger : Ledger) (reached new : Cluster) (batch rest left : List Event) (run : HasRun now later ledger reached left)
      (split : left ≡ batch ++ rest) (ms : List Bool) (counted : length ms ≡ length batch) (some : 0 < length batch) (few : length batch ≤ size) (took : last ≤ later + 3)
      (cluster : new ≡ (traced plan reached batch ms).cluster) where
    -- the trace with the batch
    with-batch : traced plan start events (run.marks ++ ms) ≡ onto run.replies run.entries (traced plan reached batch ms)
    with-batch = run.goes_on ms ∙ ap (λ es. onto run.replies run.entries (traced plan reached es ms)) split ∙ ap (onto run.replies run.entries) (traced-alone plan reached batch rest ms counted)

    new-is : (traced plan start events (run.marks ++ ms)).cluster ≡ new
    new-is = ap (λ t. t.cluster) with-batch ∙ sym cluster

    within : length (run.marks ++ ms) ≤ length events
    within = omega (arith, length-append run.marks ms, run.counted, ap length split, length-append batch rest, counted)

    syncs-with : Syncs size (length (run.marks ++ ms)) before last
    syncs-with = record {
      batches = run.batches + 1;
      begun = subst (λ n. (run.batches + 1) * size < n + size) (sym (length-append run.marks ms))
          (omega (arith, one_more run.batches size, run.full, some, counted));
      few = omega (arith, run.few, took);
    }

    -- the batch is in hand: it may be kept or not, and its replies aren't written
    pub in-hand : (home : Type 0) (a b : List Content) → (home → EachStandsForOneOf a b reached new) → RanTo plan start events home old now a b size before last origin
    in-hand home a b images =
        let first : take (length run.marks) (run.marks ++ ms) ≡ run.marks = take-append_seam run.marks ms in
        let back : traced plan start events (take (length run.marks) (run.marks ++ ms)) ≡ record { replies = run.replies; entries = run.entries; cluster = reached; stopped = false } =
        ap (traced plan start events) first ∙ so-far now later ledger reached left run in
        record {
          marks = run.marks ++ ms;
          n = length run.marks;
          answered = omega (arith, length-append run.marks ms);
          in_hand = omega (arith, length-append run.marks ms, counted, few);
          within = within;
          wrote = subst (λ (t : Traced). Gains old now (written_of t)) (sym back) run.wrote;
          fits = λ k. subst (λ xs. BatchesFit plan size k origin start events xs) (sym first) (fits-so-far now later ledger reached left run k);
          images = λ at_home. λ c d of_c of_d.
              subst (λ x. StandsForOneOf x (traced plan start events (run.marks ++ ms)).cluster c d) (ap (λ t. t.cluster) (sym back))
              (subst (λ y. StandsForOneOf reached y c d) (sym new-is) (images at_home c d of_c of_d));
          syncs = syncs-with;
        }

    -- there is no room for the batch, which is full or the last
    pub too-full : (home : Type 0) (a b : List Content) (place : ℕ) → HasNoRoom ledger (traced plan reached batch ms) place → (length batch ≡ size) ⊎ (rest ≡ []) → (home → EachStandsFor a b reached)
        → RanFull plan start events home old now a b size before last origin
    too-full home a b place room whole images =
        let there = so-far now later ledger reached left run in
        let trace : traced plan reached batch ms ≡ traced plan (traced plan start events run.marks).cluster (drop (length run.marks) events) ms =
        sym (traced-alone plan reached batch rest ms counted) ∙ ap (λ (es : List Event). traced plan reached es ms) (sym (run.dropped ∙ split))
        ∙ ap (λ (t : Traced). traced plan t.cluster (drop (length run.marks) events) ms) (sym there) in
        record {
          next = record {
            marks = run.marks;
            more = ms;
            batches = run.batches;
            full = run.full;
            going = ap (λ (t : Traced). t.stopped) there;
            some = omega (arith, counted, some);
            few = omega (arith, counted, few);
            within = within;
            whole = ⊎_elim (λ full. inl (counted ∙ full))
                (λ none. inr (omega (arith, length-append run.marks ms, run.counted, ap length split, length-append batch rest, counted, ap length none))) whole;
            wrote = subst (λ (t : Traced). Gains old now (written_of t)) (sym there) run.wrote;
            fits = fits-so-far now later ledger reached left run;
          };
          place = place;
          room = subst (λ (l : Ledger). HasNoRoom l (traced plan (traced plan start events run.marks).cluster (drop (length run.marks) events) ms) place) (sym (ledger-so-far now later ledger reached left run))
              (subst (λ (t : Traced). HasNoRoom ledger t place) trace room);
          images = λ at_home. λ c d of_c of_d. images at_home c d of_c of_d ∙ ap (λ (t : Traced). Ok t.cluster) (sym there);
          syncs = syncs-with;
        }

    -- the replies are those of the batch, which is kept
    module _ (replies : List Reply) (same : replies ≡ (traced plan reached batch ms).replies) (next : Ledger) (fitted : FitsBatch ledger (traced plan reached batch ms))
        (is_next : next ≡ next_ledger ledger (traced plan reached batch ms)) where
      fits-with : (k : ℕ) → BatchesFit plan size k origin start events (run.marks ++ ms)
      fits-with k =
          run.fits ms k
          (λ j. subst (λ es. BatchesFit plan size j ledger reached es ms) (sym split) (last-fits plan size ledger reached batch rest ms counted fitted few j))

      bytes-are : written_of (traced plan start events (run.marks ++ ms)) ≡ flat_map rendered run.replies ++ flat_map rendered replies
      bytes-are = ap written_of with-batch ∙ flat_map-append rendered run.replies (traced plan reached batch ms).replies ∙ ap (λ rs. flat_map rendered run.replies ++ flat_map rendered rs) (sym same)

      -- a write of the replies failed
      pub cut-short : (home : Type 0) (a b : List Content) → GainsPrefix now after (flat_map rendered replies) → (home → EachStandsFor a b new)
          → RanCut plan start events home old after a b size before last origin
      cut-short home a b gains images =
          let front = flat_map rendered run.replies in
          let back = flat_map rendered replies in
          let first : take (length run.marks) (run.marks ++ ms) ≡ run.marks = take-append_seam run.marks ms in
          let there : written_of (traced plan start events (take (length run.marks) (run.marks ++ ms))) ≡ front = ap (λ xs. written_of (traced plan start events xs)) first ∙ ap written_of (so-far now later ledger reached left run) in
          record {
            marks = run.marks ++ ms;
            n = length run.marks;
            answered = omega (arith, length-append run.marks ms);
            in_hand = omega (arith, length-append run.marks ms, counted, few);
            within = within;
            size = length front + gains.0;
            least = omega (arith, ap length there);
            most = omega (arith, ap length bytes-are, length-append front back, gains.1);
            wrote = subst (λ (xs : List ℕ). Gains old after (take (length front + gains.0) xs)) (sym bytes-are)
                (rw (take-append-add front back gains.0) (Gains-append old now after front (take gains.0 back) run.wrote gains.2));
            fits = fits-with;
            images = λ at_home. subst (λ x. EachStandsFor a b x) (sym new-is) (images at_home);
            syncs = syncs-with;
          }

      wrote-all : Gains now after (flat_map rendered replies) → Gains old after (written_of (traced plan start events (run.marks ++ ms)))
      wrote-all gains = subst (λ (xs : List ℕ). Gains old after xs) (sym bytes-are) (Gains-append old now after (flat_map rendered run.replies) (flat_map rendered replies) run.wrote gains)

      -- the replies are written and the master stops
      pub stopped-here : (home : Type 0) (a b : List Content) (ended : Type 0) → (traced plan reached batch ms).stopped ≡ true → Gains now after (flat_map rendered replies) → (home → EachStandsFor a b new)
          → RanAll plan start events home old after a b size before last origin ended
      stopped-here home a b ended stopped gains images = record {
        marks = run.marks ++ ms;
        within = within;
        all = inr (ap (λ t. t.stopped) with-batch ∙ stopped);
        wrote = wrote-all gains;
        fits = fits-with;
        images = λ at_home. subst (λ x. EachStandsFor a b x) (sym new-is) (images at_home);
        syncs = syncs-with;
      }

      -- the replies are written and nothing is to come
      pub last-here : (home : Type 0) (a b : List Content) (ended : Type 0) → rest ≡ [] → ended → Gains now after (flat_map rendered replies) → (home → EachStandsFor a b new)
          → RanAll plan start events home old after a b size before last origin ended
      last-here home a b ended none at_end gains images = record {
        marks = run.marks ++ ms;
        within = within;
        all = inl (omega (arith, length-append run.marks ms, run.counted, ap length split, length-append batch rest, counted, ap length none), at_end);
        wrote = wrote-all gains;
        fits = fits-with;
        images = λ at_home. subst (λ x. EachStandsFor a b x) (sym new-is) (images at_home);
        syncs = syncs-with;
      }

      -- the replies are written and the run goes on
      pub goes-on : length batch ≡ size → (traced plan reached batch ms).stopped ≡ false → Gains now after (flat_map rendered replies) → HasRun after last next new rest
      unfolding syncs-with
      goes-on filled going gains = record {
        marks = run.marks ++ ms;
        replies = run.replies ++ replies;
        entries = run.entries ++ (traced plan reached batch ms).entries;
        counted = omega (arith, length-append run.marks ms, run.counted, ap length split, length-append batch rest, counted);
        goes_on = λ more.
            ap (traced plan start events) (append_assoc run.marks ms more)
            ∙ run.goes_on (ms ++ more)
            ∙ ap (λ es. onto run.replies run.entries (traced plan reached es (ms ++ more))) split
            ∙ ap (onto run.replies run.entries) (traced-batch plan reached batch rest ms more counted going)
            ∙ onto-onto run.replies (traced plan reached batch ms).replies run.entries (traced plan reached batch ms).entries (traced plan (traced plan reached batch ms).cluster rest more)
            ∙ (λ i. onto (run.replies ++ sym same i) (run.entries ++ (traced plan reached batch ms).entries) (traced plan (sym cluster i) rest more));
        wrote = subst (λ (xs : List ℕ). Gains old after xs) (sym (flat_map-append rendered run.replies replies)) (Gains-append old now after (flat_map rendered run.replies) (flat_map rendered replies) run.wrote gains);
        batches = run.batches + 1;
        begun = syncs-with.begun;
        full = omega (arith, length-append run.marks ms, one_more run.batches size, run.full, counted, filled);
        few = syncs-with.few;
        dropped = ap (λ n. drop n events) (length-append run.marks ms ∙ ap (λ n. length run.marks + n) counted) ∙ sym (drop-drop (length batch) (length run.marks) events)
            ∙ ap (λ es. drop (length batch) es) (run.dropped ∙ split) ∙ drop-append_seam batch rest;
        keeps = λ more k j is.
            let one : k + 1 ≡ suc k = omega arith in
            ap (ledger_after plan size j origin start events) (append_assoc run.marks ms more)
            ∙ run.keeps (ms ++ more) (k + 1) j (omega (arith, is))
            ∙ ap (λ n. ledger_after plan size n ledger reached left (ms ++ more)) one
            ∙ ap (λ es. ledger_after plan size (suc k) ledger reached es (ms ++ more)) split
            ∙ full-ledger plan size ledger reached batch rest ms counted filled more k
            ∙ (λ i. ledger_after plan size k (sym is_next i) (sym cluster i) rest more);
        fits = λ more k from_here.
            subst (λ xs. BatchesFit plan size k origin start events xs) (sym (append_assoc run.marks ms more))
            (run.fits (ms ++ more) k
            (λ j.
            subst (λ es. BatchesFit plan size j ledger reached es (ms ++ more)) (sym split)
            (full-fits plan size ledger reached batch rest ms counted filled more fitted
            (λ i. subst (λ l. BatchesFit plan size i l (traced plan reached batch ms).cluster rest more) is_next (subst (λ c. BatchesFit plan size i next c rest more) cluster (from_here i))) j)));
      }

  -- nothing is in hand
  pub nothing-in-hand : (now : Option (List ℕ)) (later : ℕ) (ledger : Ledger) (reached : Cluster) (rest : List Event) (run : HasRun now later ledger reached rest) (home : Type 0) (a b : List Content)
      → (home → EachStandsFor a b reached) → RanTo plan start events home old now a b size before later origin
  nothing-in-hand now later ledger reached rest run home a b images =
      let there = so-far now later ledger reached rest run in
      record {
        marks = run.marks;
        n = length run.marks;
        answered = omega arith;
        in_hand = omega arith;
        within = omega (arith, run.counted);
        wrote = subst (λ (xs : List Bool). Gains old now (written_of (traced plan start events xs))) (sym (take-length run.marks)) (subst (λ (t : Traced). Gains old now (written_of t)) (sym there) run.wrote);
        fits = λ k. subst (λ xs. BatchesFit plan size k origin start events xs) (sym (take-length run.marks)) (fits-so-far now later ledger reached rest run k);
        images = λ at_home. λ c d of_c of_d. inr (images at_home c d of_c of_d ∙ ap (λ (t : Traced). Ok t.cluster) (sym there));
        syncs = syncs-so-far now later ledger reached rest run;
      }

  -- all events are answered
  pub all-answered : (now : Option (List ℕ)) (later : ℕ) (ledger : Ledger) (reached : Cluster) (rest : List Event) (run : HasRun now later ledger reached rest) (home : Type 0) (a b : List Content) (ended : Type 0)
      → rest ≡ [] → ended → (home → EachStandsFor a b reached) → RanAll plan start events home old now a b size before later origin ended
  all-answered now later ledger reached rest run home a b ended none at_end images =
      let there = so-far now later ledger reached rest run in
      record {
        marks = run.marks;
        within = omega (arith, run.counted);
        all = inl (omega (arith, run.counted, ap length none), at_end);
        wrote = subst (λ (t : Traced). Gains old now (written_of t)) (sym there) run.wrote;
        fits = fits-so-far now later ledger reached rest run;
        images = λ at_home. λ c d of_c of_d. images at_home c d of_c of_d ∙ ap (λ (t : Traced). Ok t.cluster) (sym there);
        syncs = syncs-so-far now later ledger reached rest run;
      }

  pub HasRun-none : 0 < size → HasRun old before origin start events
  HasRun-none some = record {
    marks = [];
    replies = [];
    entries = [];
    counted = omega arith;
    goes_on = λ more. refl;
    wrote = Gains-nothing old;
    batches = 0;
    begun = omega (arith, some);
    full = omega arith;
    few = omega arith;
    dropped = refl;
    keeps = λ more k j is. let same : j ≡ k = omega (arith, is) in ap (λ n. ledger_after plan size n origin start events more) same;
    fits = λ more k from_here. from_here k;
  }

-- where all is answered, all that is answered is kept
pub all-to : (plan : Cluster → Event → Planned) (start : Cluster) (events : List Event) (home : Type 0) (old new : Option (List ℕ)) (a b : List Content) (size before later : ℕ) (ledger : Ledger) (ended : Type 0)
    → RanAll plan start events home old new a b size before later ledger ended → RanTo plan start events home old new a b size before later ledger
all-to plan start events home old new a b size before later ledger ended ran = record {
  marks = ran.marks;
  n = length ran.marks;
  answered = omega arith;
  in_hand = omega arith;
  within = ran.within;
  wrote = subst (λ (xs : List Bool). Gains old new (written_of (traced plan start events xs))) (sym (take-length ran.marks)) ran.wrote;
  fits = λ k. subst (λ (xs : List Bool). BatchesFit plan size k ledger start events xs) (sym (take-length ran.marks)) (ran.fits k);
  images = λ at_home. λ c d of_c of_d. inr (ran.images at_home c d of_c of_d);
  syncs = ran.syncs;
}

-- where there is no room for a batch, all before it that is answered is kept
pub full-to : (plan : Cluster → Event → Planned) (start : Cluster) (events : List Event) (home : Type 0) (old new : Option (List ℕ)) (a b : List Content) (size before later : ℕ) (ledger : Ledger)
    → RanFull plan start events home old new a b size before later ledger → RanTo plan start events home old new a b size before later ledger
full-to plan start events home old new a b size before later ledger ran =
    let next = ran.next in
    let first : take (length next.marks) (next.marks ++ next.more) ≡ next.marks = take-append_seam next.marks next.more in
    record {
      marks = next.marks ++ next.more;
      n = length next.marks;
      answered = omega (arith, length-append next.marks next.more);
      in_hand = omega (arith, length-append next.marks next.more, next.few);
      within = next.within;
      wrote = subst (λ (xs : List Bool). Gains old new (written_of (traced plan start events xs))) (sym first) next.wrote;
      fits = λ k. subst (λ (xs : List Bool). BatchesFit plan size k ledger start events xs) (sym first) (next.fits k);
      images = λ at_home. λ c d of_c of_d.
          inl (subst (λ (xs : List Bool). stands_for c d ≡ Ok (traced plan start events xs).cluster) (sym first) (ran.images at_home c d of_c of_d));
      syncs = ran.syncs;
    }
