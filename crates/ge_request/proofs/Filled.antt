-- One more item of -l is put into the table, and its refusals are noted.
use Rattle.std.proofs.Common.{◌≡◌, ℕ, ◌+◌, ◌<◌, List, [], ◌∷◌, ◌++◌, length, take, get_or, map, add-one, sym, subst, ap, ◌∙◌}
use Rattle.std.specs.Prelude.{Option, fold}
use Rattle.std.proofs.Math.Seq.{take-suc}
use Rattle.std.proofs.lemmas.List.{map-append}
use Rattle.std.proofs.lemmas.List.Sums.{fold-append}
use Rattle.ge_base.specs.declared.refusal.Refusal.{Refusal}
use Rattle.ge_model_rows.specs.ClusterRows.{Cluster}
use Rattle.ge_model_rows.specs.ValueRows.{Value}
use Rattle.ge_model_rows.specs.Faults.{after_faults}
use Rattle.ge_model_rows.proofs.FaultLaws.{after_faults-append}
use Rattle.ge_model_config.specs.Cited.{Read}
use Rattle.ge_model_config.specs.Pairs.{put_value, with_value}
use Rattle.ge_model_config.specs.Requests.{asked_read, with_asked}
use Rattle.ge_request.specs.Asked.{Puts, Holds}
use denote.Ref.{Bor}

abbrev Pairs : Type 0
Pairs = List (List ℕ × Value)

abbrev bytes_of : List (Bor (List ℕ)) → List (List ℕ)
bytes_of items = map (λ item. item.now) items

abbrev start_of : Pairs → Read Pairs
start_of table = (table, [])

-- a pair beside those that were read
one_more : (table next : Pairs) (first old new : Option Refusal) (read : Read Pairs) (pair : Read (Option (List ℕ × Value)))
    → Holds table first old read → Puts table next old new pair → Holds next first new (with_value read pair)
one_more table next first old new read pair holds puts = (
  puts.0 ∙ ap (λ (t : Pairs). put_value t pair.0) holds.0,
  puts.1 ∙ ap (λ (o : Option Refusal). after_faults o pair.1) holds.1 ∙ sym (after_faults-append first read.1 pair.1),
)

one_longer : (items : List (Bor (List ℕ))) (i : ℕ) (d : Bor (List ℕ)) → i < length items → bytes_of (take (i + 1) items) ≡ bytes_of (take i items) ++ (get_or items i d).now ∷ []
one_longer items i d within =
    ap (λ (n : ℕ). bytes_of (take n items)) (add-one i) ∙ ap bytes_of (take-suc items i d within) ∙ map-append (λ (item : Bor (List ℕ)). item.now) (take i items) (get_or items i d ∷ [])

pub turn : (c found : Cluster) (start table next : Pairs) (first old new : Option Refusal) (items : List (Bor (List ℕ))) (i : ℕ) (d : Bor (List ℕ)) → i < length items → found ≡ c
    → Holds table first old (fold (with_asked c) (start_of start) (bytes_of (take i items))) → Puts table next old new (asked_read found (get_or items i d).now)
    → Holds next first new (fold (with_asked c) (start_of start) (bytes_of (take (i + 1) items)))
turn c found start table next first old new items i d within same holds puts =
    subst (Holds next first new)
    (sym (ap (fold (with_asked c) (start_of start)) (one_longer items i d within) ∙ fold-append (with_asked c) (start_of start) (bytes_of (take i items)) ((get_or items i d).now ∷ [])))
    (one_more table next first old new (fold (with_asked c) (start_of start) (bytes_of (take i items))) (asked_read c (get_or items i d).now) holds
    (subst (λ (k : Cluster). Puts table next old new (asked_read k (get_or items i d).now)) same puts))
