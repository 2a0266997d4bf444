-- Items that were written one behind the other are read again.
use Rattle.std.proofs.Common.{◌≡◌, ℕ, zero, suc, ◌+◌, ◌<◌, ◌≤◌, true, false, List, [], ◌∷◌, ◌++◌, length, drop, Option, Some, None, Ok, Err, ap, ◌∙◌, arith, flat_map, length-append, append_assoc, eq-eqb}
use Rattle.std.specs.Prelude.{IsTrue, ◌==◌}
use Rattle.std.specs.List.{list_all}
use Rattle.std.proofs.lemmas.List.{length-drop}
use Rattle.std.proofs.lemmas.List.Concat.{flat_map-cons}
use Rattle.std.proofs.lemmas.Bool.{ne_eqb}
use Rattle.ge_model_codec.specs.Reading.{Reading}
use Rattle.ge_model_codec.specs.declared.TakeFault.{TakeFault}
use Rattle.ge_model_codec.specs.Code.{Code}
use Rattle.ge_model_codec.specs.Canonical.{IsCanonical}
use Rattle.ge_codec.specs.Places.{both, drop-past, ends_behind}
use Rattle.ge_model_log.specs.Items.{items_behind, items_in}

module _ {X : Type 0} (item : Code X) where
  -- the last item
  pub last-item : (reading : Reading X) (x : X) (end size : ℕ) (items : List X) (more : ℕ → List X → Option (List X)) → reading ≡ Ok (x, end) → end ≡ size
      → elim reading as (λ r. Option (List X)) [ Ok p ↦ elim (p.1 == size) [ true ↦ Some (items ++ p.0 ∷ []) | false ↦ more p.1 (items ++ p.0 ∷ []) ] | Err fault ↦ None ] ≡ Some (items ++ x ∷ [])
  last-item reading x end size items more read last =
      ap (λ r. elim r as (λ r. Option (List X)) [ Ok p ↦ elim (p.1 == size) [ true ↦ Some (items ++ p.0 ∷ []) | false ↦ more p.1 (items ++ p.0 ∷ []) ] | Err fault ↦ None ]) read
      ∙ ap (λ t. elim t as (λ t. Option (List X)) [ true ↦ Some (items ++ x ∷ []) | false ↦ more end (items ++ x ∷ []) ]) (eq-eqb end size last)

  -- an item before others
  pub next-item : (reading : Reading X) (x : X) (end size : ℕ) (items : List X) (more : ℕ → List X → Option (List X)) → reading ≡ Ok (x, end) → (end ≡ size → ⊥)
      → elim reading as (λ r. Option (List X)) [ Ok p ↦ elim (p.1 == size) [ true ↦ Some (items ++ p.0 ∷ []) | false ↦ more p.1 (items ++ p.0 ∷ []) ] | Err fault ↦ None ] ≡ more end (items ++ x ∷ [])
  next-item reading x end size items more read apart =
      ap (λ r. elim r as (λ r. Option (List X)) [ Ok p ↦ elim (p.1 == size) [ true ↦ Some (items ++ p.0 ∷ []) | false ↦ more p.1 (items ++ p.0 ∷ []) ] | Err fault ↦ None ]) read
      ∙ ap (λ t. elim t as (λ t. Option (List X)) [ true ↦ Some (items ++ x ∷ []) | false ↦ more end (items ++ x ∷ []) ]) (ne_eqb end size apart)

  -- no item
  pub no-item : (reading : Reading X) (fault : TakeFault) (size : ℕ) (items : List X) (more : ℕ → List X → Option (List X)) → reading ≡ Err fault
      → elim reading as (λ r. Option (List X)) [ Ok p ↦ elim (p.1 == size) [ true ↦ Some (items ++ p.0 ∷ []) | false ↦ more p.1 (items ++ p.0 ∷ []) ] | Err fault ↦ None ] ≡ None
  no-item reading fault size items more read =
      ap (λ r. elim r as (λ r. Option (List X)) [ Ok p ↦ elim (p.1 == size) [ true ↦ Some (items ++ p.0 ∷ []) | false ↦ more p.1 (items ++ p.0 ∷ []) ] | Err fault ↦ None ]) read

  module _ (canonical : IsCanonical item) (some : (x : X) → 0 < length (item.write x)) where
    -- items that stand from a place on up to the end are read
    items-again : (xs : List X) (x : X) (steps : ℕ) (bytes : List ℕ) (at : ℕ) (items : List X) → IsTrue (list_all item.fits (x ∷ xs)) → length xs < steps
        → drop at bytes ≡ flat_map item.write (x ∷ xs) → at ≤ length bytes → items_behind item steps bytes at items ≡ Some (items ++ (x ∷ xs))
    items-again xs x zero bytes at items fits few here within = absurd (omega arith)
    items-again [] x (suc steps) bytes at items fits few here within =
        let each = both (item.fits x) (list_all item.fits []) fits in
        let split : flat_map item.write (x ∷ []) ≡ item.write x ++ [] = flat_map-cons item.write x [] in
        let read = canonical.reads_back bytes at x [] each.0 (here ∙ split) in
        let end : at + length (item.write x) ≡ length bytes = omega (arith, length-drop at bytes, ap length here, ap length split, length-append (item.write x) []) in
        last-item (item.read bytes at) x (at + length (item.write x)) (length bytes) items (items_behind item steps bytes) read end
    items-again (next ∷ xs) x (suc steps) bytes at items fits few here within =
        let each = both (item.fits x) (list_all item.fits (next ∷ xs)) fits in
        let split : flat_map item.write (x ∷ next ∷ xs) ≡ item.write x ++ flat_map item.write (next ∷ xs) = flat_map-cons item.write x (next ∷ xs) in
        let here_first : drop at bytes ≡ item.write x ++ flat_map item.write (next ∷ xs) = here ∙ split in
        let mid = at + length (item.write x) in
        let read = canonical.reads_back bytes at x (flat_map item.write (next ∷ xs)) each.0 here_first in
        let behind : drop mid bytes ≡ flat_map item.write (next ∷ xs) = drop-past bytes at (item.write x) (flat_map item.write (next ∷ xs)) here_first in
        let inside : mid ≤ length bytes = ends_behind bytes at (item.write x) (flat_map item.write (next ∷ xs)) within here_first in
        let left : 0 < length (flat_map item.write (next ∷ xs)) = omega (arith, ap length (flat_map-cons item.write next xs), length-append (item.write next) (flat_map item.write xs), some next) in
        let apart : mid ≡ length bytes → ⊥ = λ same. omega (arith, same, length-drop mid bytes, ap length behind, left) in
        next-item (item.read bytes at) x mid (length bytes) items (items_behind item steps bytes) read apart
        ∙ items-again xs next steps bytes mid (items ++ x ∷ []) each.1 (omega arith) behind inside
        ∙ ap (λ all. Some all) (append_assoc items (x ∷ []) (next ∷ xs))

    -- all items that were written
    pub written-again : (xs : List X) (x : X) (bytes : List ℕ) → IsTrue (list_all item.fits (x ∷ xs)) → bytes ≡ flat_map item.write (x ∷ xs) → items_in item bytes ≡ Some (x ∷ xs)
    written-again xs x bytes fits is =
        items-again xs x (suc (length bytes)) bytes 0 [] fits (omega (arith, ap length is, as_many (x ∷ xs), few xs x)) is (omega arith)
      where
        few : (xs : List X) (x : X) → length xs < length (x ∷ xs)
        few xs x = omega arith

        as_many : (xs : List X) → length xs ≤ length (flat_map item.write xs)
        as_many [] = omega arith
        as_many (x ∷ xs) = omega (arith, as_many xs, some x, ap length (flat_map-cons item.write x xs), length-append (item.write x) (flat_map item.write xs))
