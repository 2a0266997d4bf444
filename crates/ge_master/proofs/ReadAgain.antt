-- Entries that were written are read and applied again.
use Rattle.std.proofs.Common.{◌≡◌, ℕ, zero, suc, ◌+◌, ◌<◌, ◌≤◌, true, false, List, [], ◌∷◌, ◌++◌, length, drop, Option, Some, None, Result, Ok, Err, refl, sym, ap, ◌∙◌, arith, fold, flat_map, length-append, eq-eqb}
use Rattle.std.specs.Prelude.{IsTrue, ◌==◌}
use Rattle.std.specs.List.{list_all}
use Rattle.std.proofs.lemmas.List.{length-drop, append-nil}
use Rattle.std.proofs.lemmas.List.Concat.{flat_map-cons}
use Rattle.std.proofs.lemmas.Bool.{ne_eqb}
use Rattle.ge_model_journal.specs.Journal.{State, compacted}
use Rattle.ge_model_codec.specs.Reading.{Reading}
use Rattle.ge_model_codec.specs.declared.TakeFault.{TakeFault}
use Rattle.ge_model_codec.specs.Code.{Code, whole}
use Rattle.ge_model_codec.specs.Canonical.{IsCanonical}
use Rattle.ge_codec.specs.Places.{both, drop-past, ends_behind}
use Rattle.ge_snapshot.specs.Whole.{whole_read}
use Rattle.ge_model_program.specs.Reading.{after_from, after_record, in_snapshot, held_in}

module _ {C E : Type 0} (snapshot : Code C) (entry : Code E) (after : C → E → C) (opening : C) where
  -- the last entry
  pub last_applies : (reading : Reading E) (e : E) (end size : ℕ) (c : C) (more : ℕ → C → Option C) → reading ≡ Ok (e, end) → end ≡ size
      → elim reading as (λ r. Option C) [ Ok p ↦ elim (p.1 == size) [ true ↦ Some (after c p.0) | false ↦ more p.1 (after c p.0) ] | Err fault ↦ None ] ≡ Some (after c e)
  last_applies reading e end size c more read last =
      ap (λ r. elim r as (λ r. Option C) [ Ok p ↦ elim (p.1 == size) [ true ↦ Some (after c p.0) | false ↦ more p.1 (after c p.0) ] | Err fault ↦ None ]) read
      ∙ ap (λ t. elim t as (λ t. Option C) [ true ↦ Some (after c e) | false ↦ more end (after c e) ]) (eq-eqb end size last)

  -- an entry before others
  pub next_applies : (reading : Reading E) (e : E) (end size : ℕ) (c : C) (more : ℕ → C → Option C) → reading ≡ Ok (e, end) → (end ≡ size → ⊥)
      → elim reading as (λ r. Option C) [ Ok p ↦ elim (p.1 == size) [ true ↦ Some (after c p.0) | false ↦ more p.1 (after c p.0) ] | Err fault ↦ None ] ≡ more end (after c e)
  next_applies reading e end size c more read apart =
      ap (λ r. elim r as (λ r. Option C) [ Ok p ↦ elim (p.1 == size) [ true ↦ Some (after c p.0) | false ↦ more p.1 (after c p.0) ] | Err fault ↦ None ]) read
      ∙ ap (λ t. elim t as (λ t. Option C) [ true ↦ Some (after c e) | false ↦ more end (after c e) ]) (ne_eqb end size apart)

  -- no entry
  pub none_applies : (reading : Reading E) (fault : TakeFault) (size : ℕ) (c : C) (more : ℕ → C → Option C) → reading ≡ Err fault
      → elim reading as (λ r. Option C) [ Ok p ↦ elim (p.1 == size) [ true ↦ Some (after c p.0) | false ↦ more p.1 (after c p.0) ] | Err fault ↦ None ] ≡ None
  none_applies reading fault size c more read =
      ap (λ r. elim r as (λ r. Option C) [ Ok p ↦ elim (p.1 == size) [ true ↦ Some (after c p.0) | false ↦ more p.1 (after c p.0) ] | Err fault ↦ None ]) read

  module _ (canonical : IsCanonical entry) (some : (e : E) → 0 < length (entry.write e)) where
    -- entries that stand from a place on up to the end are applied
    pub entries_apply : (es : List E) (e : E) (steps : ℕ) (bytes : List ℕ) (at : ℕ) (c : C) → IsTrue (list_all entry.fits (e ∷ es)) → length es < steps
        → drop at bytes ≡ flat_map entry.write (e ∷ es) → at ≤ length bytes → after_from snapshot entry after opening steps bytes at c ≡ Some (fold after c (e ∷ es))
    entries_apply es e zero bytes at c fits few here within = absurd (omega arith)
    entries_apply [] e (suc steps) bytes at c fits few here within =
        let each = both (entry.fits e) (list_all entry.fits []) fits in
        let split : flat_map entry.write (e ∷ []) ≡ entry.write e ++ [] = flat_map-cons entry.write e [] in
        let read = canonical.reads_back bytes at e [] each.0 (here ∙ split) in
        let end : at + length (entry.write e) ≡ length bytes = omega (arith, length-drop at bytes, ap length here, ap length split, length-append (entry.write e) []) in
        last_applies (entry.read bytes at) e (at + length (entry.write e)) (length bytes) c (after_from snapshot entry after opening steps bytes) read end
    entries_apply (next ∷ es) e (suc steps) bytes at c fits few here within =
        let each = both (entry.fits e) (list_all entry.fits (next ∷ es)) fits in
        let split : flat_map entry.write (e ∷ next ∷ es) ≡ entry.write e ++ flat_map entry.write (next ∷ es) = flat_map-cons entry.write e (next ∷ es) in
        let here_first : drop at bytes ≡ entry.write e ++ flat_map entry.write (next ∷ es) = here ∙ split in
        let mid = at + length (entry.write e) in
        let read = canonical.reads_back bytes at e (flat_map entry.write (next ∷ es)) each.0 here_first in
        let behind : drop mid bytes ≡ flat_map entry.write (next ∷ es) = drop-past bytes at (entry.write e) (flat_map entry.write (next ∷ es)) here_first in
        let inside : mid ≤ length bytes = ends_behind bytes at (entry.write e) (flat_map entry.write (next ∷ es)) within here_first in
        let left : 0 < length (flat_map entry.write (next ∷ es)) = omega (arith, ap length (flat_map-cons entry.write next es), length-append (entry.write next) (flat_map entry.write es), some next) in
        let apart : mid ≡ length bytes → ⊥ = λ same. omega (arith, same, length-drop mid bytes, ap length behind, left) in
        next_applies (entry.read bytes at) e mid (length bytes) c (after_from snapshot entry after opening steps bytes) read apart
        ∙ entries_apply es next steps bytes mid (after c e) each.1 (omega arith) behind inside

    -- a record of entries stands for what they make
    pub record_applies : (es : List E) (e : E) (bytes : List ℕ) (c : C) → IsTrue (list_all entry.fits (e ∷ es)) → bytes ≡ flat_map entry.write (e ∷ es)
        → after_record snapshot entry after opening c bytes ≡ Some (fold after c (e ∷ es))
    record_applies es e bytes c fits is =
        entries_apply es e (suc (length bytes)) bytes 0 c fits (omega (arith, ap length is, as_many (e ∷ es), few es e)) is (omega arith)
      where
        few : (es : List E) (e : E) → length es < length (e ∷ es)
        few es e = omega arith

        as_many : (xs : List E) → length xs ≤ length (flat_map entry.write xs)
        as_many [] = omega arith
        as_many (x ∷ xs) = omega (arith, as_many xs, some x, ap length (flat_map-cons entry.write x xs), length-append (entry.write x) (flat_map entry.write xs))

  -- a snapshot that was written is read again
  snapshot_read : (bytes : List ℕ) (c : C) → IsCanonical snapshot → IsTrue (snapshot.fits c) → bytes ≡ snapshot.write c → 0 < length bytes → in_snapshot snapshot entry after opening bytes ≡ Ok c
  snapshot_read [] c canonical fits is some = absurd (omega arith)
  snapshot_read (b ∷ bytes) c canonical fits is some =
      let read : snapshot.read (b ∷ bytes) 0 ≡ Ok (c, 0 + length (snapshot.write c)) = canonical.reads_back (b ∷ bytes) 0 c [] fits (is ∙ sym (append-nil (snapshot.write c))) in
      let end : 0 + length (snapshot.write c) ≡ length (b ∷ bytes) = omega (arith, ap length is) in
      ap (λ w. elim w as (λ r. Result C ℕ) [ Ok p ↦ Ok p.0 | Err fault ↦ Err 18 ]) (whole_of (b ∷ bytes) c (0 + length (snapshot.write c)) read end)
    where
      whole_of : (bytes : List ℕ) (c : C) (end : ℕ) → snapshot.read bytes 0 ≡ Ok (c, end) → end ≡ length bytes → whole snapshot bytes ≡ Ok (c, end)
      whole_of bytes c end read last = whole_read snapshot bytes c end read last

  -- a state of a snapshot alone
  pub held_in-compacted : (s : State) (bytes : List ℕ) (c : C) → IsCanonical snapshot → IsTrue (snapshot.fits c) → bytes ≡ snapshot.write c → 0 < length bytes
      → held_in snapshot entry after opening (compacted s bytes) ≡ Ok c
  held_in-compacted s bytes c canonical fits is some = snapshot_read bytes c canonical fits is some
