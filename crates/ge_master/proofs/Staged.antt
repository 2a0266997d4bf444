-- How far the trace of a batch has come, and how it goes on and ends.
use Rattle.std.proofs.Common.{◌≡◌, ℕ, ◌+◌, Bool, true, false, List, [], ◌∷◌, ◌++◌, length, replicate, Option, Some, None, refl, ap, ◌∙◌, sym, append_assoc, arith, fold, flat_map, subst}
use Rattle.std.specs.List.{list_all}
use Rattle.std.specs.Option.{option_to_list}
use Rattle.std.proofs.lemmas.List.{length-append, length-replicate, append-nil}
use Rattle.std.proofs.lemmas.List.Concat.{flat_map-append}
use Rattle.std.proofs.lemmas.List.Sums.{fold-append}
use Rattle.ge_model_rows.specs.ClusterRows.{Cluster}
use Rattle.ge_model_rows.specs.EntryRows.{Entry}
use Rattle.ge_model_rows.specs.EventRows.{Event, Reply, Planned}
use Rattle.ge_codec.specs.Places.{both, and_of}
use Rattle.ge_model_jobs.specs.Applying.{after_entry}
use Rattle.ge_model_core.specs.Trace.{answer_of, after_entries}
use Rattle.ge_model_program.specs.StandsFor.{entry_bytes, entry_fits}
use Rattle.ge_model_program.specs.Traced.{Traced, onto, ends_at, traced}
use Rattle.ge_master.specs.Staging.{AreFit, Stages, IsStaged}

-- two lists of entries that fit are one
fit-append : (xs ys : List Entry) → AreFit xs → AreFit ys → AreFit (xs ++ ys)
fit-append [] ys a b = b
fit-append (x ∷ xs) ys a b = let each = both (entry_fits x) (list_all entry_fits xs) a in and_of (entry_fits x) (list_all entry_fits (xs ++ ys)) each.0 (fit-append xs ys each.1 b)

pub onto-onto : (rs more_rs : List Reply) (es more_es : List Entry) (t : Traced) → onto rs es (onto more_rs more_es t) ≡ onto (rs ++ more_rs) (es ++ more_es) t
onto-onto rs more_rs es more_es t =
    λ i. record { replies = sym (append_assoc rs more_rs t.replies) i; entries = sym (append_assoc es more_es t.entries) i; cluster = t.cluster; stopped = t.stopped }

pub onto-end : (rs : List Reply) (es : List Entry) (stopped : Bool) (c : Cluster) → onto rs es (ends_at stopped c) ≡ record { replies = rs; entries = es; cluster = c; stopped = stopped }
onto-end rs es stopped c = λ i. record { replies = append-nil rs i; entries = append-nil es i; cluster = c; stopped = stopped }

-- the entries of what may be an entry, applied
applied-entries : (c : Cluster) (entry : Option Entry) → fold after_entry c (option_to_list entry) ≡ after_entries c entry
applied-entries c None = refl
applied-entries c (Some e) = refl

-- what a trace changes up to an event is what all entries make
then-applied : (stop : Bool) (c d : Cluster) (entries : List Entry) (t : Traced) → fold after_entry c entries ≡ d → t.cluster ≡ fold after_entry d t.entries
    → (elim stop as (λ s. Traced) [ true ↦ ends_at true d | false ↦ t ]).cluster ≡ fold after_entry c (entries ++ (elim stop as (λ s. Traced) [ true ↦ ends_at true d | false ↦ t ]).entries)
then-applied true c d entries t here later = sym here ∙ ap (λ es. fold after_entry c es) (sym (append-nil entries))
then-applied false c d entries t here later = later ∙ ap (λ x. fold after_entry x t.entries) (sym here) ∙ sym (fold-append after_entry c entries t.entries)

module _ (plan : Cluster → Event → Planned) where
  -- the cluster after a trace is the one after its entries
  pub traced-applied : (c : Cluster) (events : List Event) (marks : List Bool) → (traced plan c events marks).cluster ≡ fold after_entry c (traced plan c events marks).entries
  traced-applied c [] [] = refl
  traced-applied c (e ∷ events) [] = refl
  traced-applied c [] (mark ∷ marks) = refl
  traced-applied c (e ∷ events) (mark ∷ marks) =
      let p : Planned = answer_of plan c e mark in
      then-applied p.stop c (after_entries c p.entry) (option_to_list p.entry) (traced plan (after_entries c p.entry) events marks) (applied-entries c p.entry)
      (traced-applied (after_entries c p.entry) events marks)

  -- what the events so far gave, and what the rest gives from the cluster that was reached
  pub record HasStaged (start : Cluster) (events : List Event) (reached : Cluster) (rest : List Event) (replies : List Reply) (body : List ℕ) : Type 0 where
    pub marks : List Bool
    pub entries : List Entry
    pub counted : length marks + length rest ≡ length events
    pub goes_on : (more : List Bool) → traced plan start events (marks ++ more) ≡ onto replies entries (traced plan reached rest more)
    pub bytes : body ≡ flat_map entry_bytes entries
    pub fits : AreFit entries

  pub HasStaged-none : (start : Cluster) (events : List Event) → HasStaged start events start events [] []
  HasStaged-none start events = record { marks = []; entries = []; counted = omega arith; goes_on = λ more. refl; bytes = refl; fits = refl }

  -- a trace from an event on that doesn't stop the master
  traced-going : (c : Cluster) (e : Event) (events : List Event) (mark : Bool) (marks : List Bool) → (answer_of plan c e mark).stop ≡ false
      → traced plan c (e ∷ events) (mark ∷ marks)
      ≡ onto ((answer_of plan c e mark).reply ∷ []) (option_to_list (answer_of plan c e mark).entry) (traced plan (after_entries c (answer_of plan c e mark).entry) events marks)
  traced-going c e events mark marks going =
      let p : Planned = answer_of plan c e mark in
      ap (λ (q : Bool). onto (p.reply ∷ []) (option_to_list p.entry) (elim q as (λ s. Traced) [ true ↦ ends_at true (after_entries c p.entry) | false ↦ traced plan (after_entries c p.entry) events marks ])) going

  -- and from one that does
  traced-stopped : (c : Cluster) (e : Event) (events : List Event) (mark : Bool) (marks : List Bool) → (answer_of plan c e mark).stop ≡ true
      → traced plan c (e ∷ events) (mark ∷ marks)
      ≡ onto ((answer_of plan c e mark).reply ∷ []) (option_to_list (answer_of plan c e mark).entry) (ends_at true (after_entries c (answer_of plan c e mark).entry))
  traced-stopped c e events mark marks stopped =
      let p : Planned = answer_of plan c e mark in
      ap (λ (q : Bool). onto (p.reply ∷ []) (option_to_list p.entry) (elim q as (λ s. Traced) [ true ↦ ends_at true (after_entries c p.entry) | false ↦ traced plan (after_entries c p.entry) events marks ])) stopped

  -- the bytes and the fitness of one event more
  more-bytes : (body new_body : List ℕ) (entries more : List Entry) → body ≡ flat_map entry_bytes entries → new_body ≡ body ++ flat_map entry_bytes more → new_body ≡ flat_map entry_bytes (entries ++ more)
  more-bytes body new_body entries more so_far is = is ∙ ap (λ front. front ++ flat_map entry_bytes more) so_far ∙ sym (flat_map-append entry_bytes entries more)

  -- one event more
  pub HasStaged-more : (start : Cluster) (events : List Event) (reached new : Cluster) (e : Event) (rest : List Event) (replies new_replies : List Reply) (body new_body : List ℕ) (stop : Bool)
      → HasStaged start events reached (e ∷ rest) replies body → Stages plan reached e replies new_replies body new_body new stop → stop ≡ false
      → HasStaged start events new rest new_replies new_body
  HasStaged-more start events reached new e rest replies new_replies body new_body stop so_far is going =
      let p : Planned = answer_of plan reached e is.mark in
      let goes : p.stop ≡ false = sym is.stop ∙ going in
      record {
        marks = so_far.marks ++ is.mark ∷ [];
        entries = so_far.entries ++ option_to_list p.entry;
        counted = omega (arith, length-append so_far.marks (is.mark ∷ []), so_far.counted);
        goes_on = λ more.
            ap (traced plan start events) (append_assoc so_far.marks (is.mark ∷ []) more)
            ∙ so_far.goes_on (is.mark ∷ more)
            ∙ ap (onto replies so_far.entries) (traced-going reached e rest is.mark more goes)
            ∙ onto-onto replies (p.reply ∷ []) so_far.entries (option_to_list p.entry) (traced plan (after_entries reached p.entry) rest more)
            ∙ (λ i. onto (sym is.reply i) (so_far.entries ++ option_to_list p.entry) (traced plan (sym is.cluster i) rest more));
        bytes = more-bytes body new_body so_far.entries (option_to_list p.entry) so_far.bytes is.bytes;
        fits = fit-append so_far.entries (option_to_list p.entry) so_far.fits is.fits;
      }

  -- all that a trace gives, where it is this
  staged-as : (start : Cluster) (events : List Event) (marks : List Bool) (replies : List Reply) (entries : List Entry) (new : Cluster) (stop : Bool) (body : List ℕ)
      → length marks ≡ length events → traced plan start events marks ≡ record { replies = replies; entries = entries; cluster = new; stopped = stop }
      → body ≡ flat_map entry_bytes entries → AreFit entries → IsStaged plan start events (record { replies = replies; body = body; stop = stop }) new
  staged-as start events marks replies entries new stop body counted is bytes fits = record {
    marks = marks;
    counted = counted;
    replies = ap (λ t. t.replies) (sym is);
    stop = ap (λ t. t.stopped) (sym is);
    cluster = ap (λ t. t.cluster) (sym is);
    bytes = bytes ∙ ap (λ t. flat_map entry_bytes t.entries) (sym is);
    fits = subst AreFit (ap (λ t. t.entries) (sym is)) fits;
  }

  -- all events were answered
  pub HasStaged-all : (start : Cluster) (events : List Event) (reached : Cluster) (replies : List Reply) (body : List ℕ)
      → HasStaged start events reached [] replies body → IsStaged plan start events (record { replies = replies; body = body; stop = false }) reached
  HasStaged-all start events reached replies body so_far =
      staged-as start events so_far.marks replies so_far.entries reached false body (omega (arith, so_far.counted))
      (ap (traced plan start events) (sym (append-nil so_far.marks)) ∙ so_far.goes_on [] ∙ onto-end replies so_far.entries false reached) so_far.bytes so_far.fits

  -- the last event stops the master
  pub HasStaged-stopped : (start : Cluster) (events : List Event) (reached new : Cluster) (e : Event) (rest : List Event) (replies new_replies : List Reply) (body new_body : List ℕ) (stop : Bool)
      → HasStaged start events reached (e ∷ rest) replies body → Stages plan reached e replies new_replies body new_body new stop → stop ≡ true
      → IsStaged plan start events (record { replies = new_replies; body = new_body; stop = true }) new
  HasStaged-stopped start events reached new e rest replies new_replies body new_body stop so_far is stops =
      let p : Planned = answer_of plan reached e is.mark in
      let stopped : p.stop ≡ true = sym is.stop ∙ stops in
      let more = replicate (length rest) false in
      staged-as start events (so_far.marks ++ is.mark ∷ more) new_replies (so_far.entries ++ option_to_list p.entry) new true new_body
      (omega (arith, length-append so_far.marks (is.mark ∷ more), length-replicate (length rest) false, so_far.counted))
      (so_far.goes_on (is.mark ∷ more)
      ∙ ap (onto replies so_far.entries) (traced-stopped reached e rest is.mark more stopped)
      ∙ onto-onto replies (p.reply ∷ []) so_far.entries (option_to_list p.entry) (ends_at true (after_entries reached p.entry))
      ∙ onto-end (replies ++ p.reply ∷ []) (so_far.entries ++ option_to_list p.entry) true (after_entries reached p.entry)
      ∙ (λ i. record { replies = sym is.reply i; entries = so_far.entries ++ option_to_list p.entry; cluster = sym is.cluster i; stopped = true }))
      (more-bytes body new_body so_far.entries (option_to_list p.entry) so_far.bytes is.bytes) (fit-append so_far.entries (option_to_list p.entry) so_far.fits is.fits)
