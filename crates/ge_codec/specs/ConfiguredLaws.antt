-- The rows are canonical.
use Rattle.std.proofs.Common.{◌≡◌, ℕ, Bool, List, refl, arith, inl, inr, ◌⊎◌}
use Rattle.ge_rows.specs.Keyed.{text_cmp}
use Rattle.ge_model_rows.specs.PeRows.{Allocation, UrgencySlots}
use Rattle.ge_model_rows.specs.SettingRows.{SortMethod}
use Rattle.ge_model_rows.specs.ValueRows.{Value, Kind, Relop, Requestable, Consumable}
use Rattle.ge_model_codec.specs.Code.{Code, u32_code, u64_code, text_code, option_code, ◌⊗◌}
use Rattle.ge_model_codec.specs.Canonical.{IsCanonical}
use Rattle.ge_model_codec.specs.Configured.{ValueParts, value_code, value_parts, value_from_parts, KindParts, kind_code, kind_parts, kind_from_parts, RelopParts, relop_code, relop_parts, relop_from_parts, RequestableParts, requestable_code, requestable_parts, requestable_from_parts, ConsumableParts, consumable_code, consumable_code_1, consumable_cases, consumable_parts, consumable_from_parts, complex_def_code, complex_def_code_1, complex_def_code_with, values_code, texts_code, host_row_code, attr_code, queue_row_code, AllocationParts, allocation_code, allocation_parts, allocation_from_parts, UrgencySlotsParts, urgency_slots_code, urgency_slots_parts, urgency_slots_from_parts, pe_row_code, filter_code, rule_code, quota_row_code, user_row_code, project_row_code, share_node_code, SortMethodParts, sort_method_code, sort_method_parts, sort_method_from_parts, sched_code}
use Rattle.ge_codec.specs.Numbers.{u32_canonical, u64_canonical}
use Rattle.ge_codec.specs.Parts.{bool_canonical, text_canonical, list_canonical, option_canonical}
use Rattle.ge_codec.specs.Entries.{table_canonical}
use Rattle.ge_codec.specs.Variants.{AreCases, last_are, or_are, first_are, cases_canonical}
use Rattle.ge_codec.specs.Laws.{pair_canonical, triple_canonical, quadruple_canonical, quintuple_canonical, empty_canonical, row_canonical}

value_back : (r : Value) → value_from_parts (value_parts r) ≡ r
value_back (Value.Amount a) = refl
value_back (Value.Flag a) = refl
value_back (Value.Word a) = refl

value_same : (x : ValueParts) → value_parts (value_from_parts x) ≡ x
value_same (inl x) = refl
value_same (inr (inl x)) = refl
value_same (inr (inr x)) = refl

pub value_canonical : IsCanonical value_code
value_canonical = row_canonical (cases_canonical (or_are u64_canonical (or_are bool_canonical (last_are text_canonical))) (omega arith)) _ _ value_back value_same

kind_back : (r : Kind) → kind_from_parts (kind_parts r) ≡ r
kind_back Kind.Int = refl
kind_back Kind.Time = refl
kind_back Kind.Memory = refl
kind_back Kind.Double = refl
kind_back Kind.Bool = refl
kind_back Kind.Str = refl
kind_back Kind.CStr = refl
kind_back Kind.ReStr = refl
kind_back Kind.Host = refl

kind_same : (x : KindParts) → kind_parts (kind_from_parts x) ≡ x
kind_same (inl x) = refl
kind_same (inr (inl x)) = refl
kind_same (inr (inr (inl x))) = refl
kind_same (inr (inr (inr (inl x)))) = refl
kind_same (inr (inr (inr (inr (inl x))))) = refl
kind_same (inr (inr (inr (inr (inr (inl x)))))) = refl
kind_same (inr (inr (inr (inr (inr (inr (inl x))))))) = refl
kind_same (inr (inr (inr (inr (inr (inr (inr (inl x)))))))) = refl
kind_same (inr (inr (inr (inr (inr (inr (inr (inr x)))))))) = refl

pub kind_canonical : IsCanonical kind_code
kind_canonical = row_canonical (cases_canonical (or_are empty_canonical (or_are empty_canonical (or_are empty_canonical (or_are empty_canonical (or_are empty_canonical (or_are empty_canonical (or_are empty_canonical (or_are empty_canonical (last_are empty_canonical))))))))) (omega arith)) _ _ kind_back kind_same

relop_back : (r : Relop) → relop_from_parts (relop_parts r) ≡ r
relop_back Relop.Eq = refl
relop_back Relop.Ne = refl
relop_back Relop.Lt = refl
relop_back Relop.Le = refl
relop_back Relop.Gt = refl
relop_back Relop.Ge = refl

relop_same : (x : RelopParts) → relop_parts (relop_from_parts x) ≡ x
relop_same (inl x) = refl
relop_same (inr (inl x)) = refl
relop_same (inr (inr (inl x))) = refl
relop_same (inr (inr (inr (inl x)))) = refl
relop_same (inr (inr (inr (inr (inl x))))) = refl
relop_same (inr (inr (inr (inr (inr x))))) = refl

pub relop_canonical : IsCanonical relop_code
relop_canonical = row_canonical (cases_canonical (or_are empty_canonical (or_are empty_canonical (or_are empty_canonical (or_are empty_canonical (or_are empty_canonical (last_are empty_canonical)))))) (omega arith)) _ _ relop_back relop_same

requestable_back : (r : Requestable) → requestable_from_parts (requestable_parts r) ≡ r
requestable_back Requestable.No = refl
requestable_back Requestable.Yes = refl
requestable_back Requestable.Forced = refl

requestable_same : (x : RequestableParts) → requestable_parts (requestable_from_parts x) ≡ x
requestable_same (inl x) = refl
requestable_same (inr (inl x)) = refl
requestable_same (inr (inr x)) = refl

pub requestable_canonical : IsCanonical requestable_code
requestable_canonical = row_canonical (cases_canonical (or_are empty_canonical (or_are empty_canonical (last_are empty_canonical))) (omega arith)) _ _ requestable_back requestable_same

consumable_back : (r : Consumable) → consumable_from_parts (consumable_parts r) ≡ r
consumable_back Consumable.No = refl
consumable_back Consumable.Yes = refl
consumable_back Consumable.Job = refl

consumable_same : (x : ConsumableParts) → consumable_parts (consumable_from_parts x) ≡ x
consumable_same (inl x) = refl
consumable_same (inr (inl x)) = refl
consumable_same (inr (inr x)) = refl

consumable_are : AreCases consumable_cases
consumable_are = or_are empty_canonical (or_are empty_canonical (last_are empty_canonical))

pub consumable_canonical : IsCanonical consumable_code
consumable_canonical = row_canonical (cases_canonical consumable_are (omega arith)) _ _ consumable_back consumable_same

pub consumable_canonical_1 : IsCanonical consumable_code_1
consumable_canonical_1 = row_canonical
    (cases_canonical (first_are 2 (omega arith) consumable_are) (omega arith))
    _ _ consumable_back consumable_same

complex_def_canonical_with : {consumable : Code Consumable} → IsCanonical consumable → IsCanonical (complex_def_code_with consumable)
complex_def_canonical_with consumable = row_canonical
    (pair_canonical
    (quadruple_canonical text_canonical kind_canonical relop_canonical requestable_canonical)
    (pair_canonical consumable (pair_canonical value_canonical u64_canonical)))
    _ _ (λ r. refl) (λ p. refl)

pub complex_def_canonical : IsCanonical complex_def_code
complex_def_canonical = complex_def_canonical_with consumable_canonical

pub complex_def_canonical_1 : IsCanonical complex_def_code_1
complex_def_canonical_1 = complex_def_canonical_with consumable_canonical_1

pub values_canonical : IsCanonical values_code
values_canonical = table_canonical text_cmp text_code value_code text_canonical value_canonical

pub texts_canonical : IsCanonical texts_code
texts_canonical = list_canonical text_code text_canonical

pub host_row_canonical : IsCanonical host_row_code
host_row_canonical = row_canonical
    (pair_canonical values_canonical values_canonical)
    _ _ (λ r. refl) (λ p. refl)

pub attr_canonical : {T : Type 0} (value : Code T) → IsCanonical value → IsCanonical (attr_code value)
attr_canonical value c = row_canonical (pair_canonical c (list_canonical (text_code ⊗ value) (pair_canonical text_canonical c))) _ _ (λ r. refl) (λ p. refl)

attr_u64_canonical : IsCanonical (attr_code u64_code)
attr_u64_canonical = attr_canonical u64_code u64_canonical

attr_values_canonical : IsCanonical (attr_code values_code)
attr_values_canonical = attr_canonical values_code values_canonical

attr_texts_canonical : IsCanonical (attr_code texts_code)
attr_texts_canonical = attr_canonical texts_code texts_canonical

pub queue_row_canonical : IsCanonical queue_row_code
queue_row_canonical = row_canonical
    (triple_canonical
    (quadruple_canonical texts_canonical attr_u64_canonical attr_values_canonical attr_texts_canonical)
    (quadruple_canonical attr_texts_canonical attr_texts_canonical attr_texts_canonical attr_texts_canonical)
    (triple_canonical attr_values_canonical attr_u64_canonical
    (table_canonical text_cmp text_code (attr_code u64_code) text_canonical attr_u64_canonical)))
    _ _ (λ r. refl) (λ p. refl)

allocation_back : (r : Allocation) → allocation_from_parts (allocation_parts r) ≡ r
allocation_back (Allocation.Fixed a) = refl
allocation_back Allocation.PeSlots = refl
allocation_back Allocation.FillUp = refl
allocation_back Allocation.RoundRobin = refl

allocation_same : (x : AllocationParts) → allocation_parts (allocation_from_parts x) ≡ x
allocation_same (inl x) = refl
allocation_same (inr (inl x)) = refl
allocation_same (inr (inr (inl x))) = refl
allocation_same (inr (inr (inr x))) = refl

pub allocation_canonical : IsCanonical allocation_code
allocation_canonical = row_canonical (cases_canonical (or_are u32_canonical (or_are empty_canonical (or_are empty_canonical (last_are empty_canonical)))) (omega arith)) _ _ allocation_back allocation_same

urgency_slots_back : (r : UrgencySlots) → urgency_slots_from_parts (urgency_slots_parts r) ≡ r
urgency_slots_back (UrgencySlots.Fixed a) = refl
urgency_slots_back UrgencySlots.Min = refl
urgency_slots_back UrgencySlots.Max = refl
urgency_slots_back UrgencySlots.Avg = refl

urgency_slots_same : (x : UrgencySlotsParts) → urgency_slots_parts (urgency_slots_from_parts x) ≡ x
urgency_slots_same (inl x) = refl
urgency_slots_same (inr (inl x)) = refl
urgency_slots_same (inr (inr (inl x))) = refl
urgency_slots_same (inr (inr (inr x))) = refl

pub urgency_slots_canonical : IsCanonical urgency_slots_code
urgency_slots_canonical = row_canonical (cases_canonical (or_are u32_canonical (or_are empty_canonical (or_are empty_canonical (last_are empty_canonical)))) (omega arith)) _ _ urgency_slots_back urgency_slots_same

pub pe_row_canonical : IsCanonical pe_row_code
pe_row_canonical = row_canonical
    (quintuple_canonical u64_canonical texts_canonical texts_canonical allocation_canonical urgency_slots_canonical)
    _ _ (λ r. refl) (λ p. refl)

pub filter_canonical : IsCanonical filter_code
filter_canonical = row_canonical
    (triple_canonical bool_canonical texts_canonical texts_canonical)
    _ _ (λ r. refl) (λ p. refl)

filters_canonical : IsCanonical (option_code filter_code)
filters_canonical = option_canonical filter_code filter_canonical

pub rule_canonical : IsCanonical rule_code
rule_canonical = row_canonical
    (triple_canonical text_canonical
    (quintuple_canonical filters_canonical filters_canonical filters_canonical filters_canonical filters_canonical)
    (table_canonical text_cmp text_code u64_code text_canonical u64_canonical))
    _ _ (λ r. refl) (λ p. refl)

pub quota_row_canonical : IsCanonical quota_row_code
quota_row_canonical = row_canonical
    (triple_canonical text_canonical bool_canonical (list_canonical rule_code rule_canonical))
    _ _ (λ r. refl) (λ p. refl)

pub user_row_canonical : IsCanonical user_row_code
user_row_canonical = row_canonical (pair_canonical u64_canonical u64_canonical) _ _ (λ r. refl) (λ p. refl)

pub project_row_canonical : IsCanonical project_row_code
project_row_canonical = row_canonical
    (quadruple_canonical u64_canonical u64_canonical texts_canonical texts_canonical)
    _ _ (λ r. refl) (λ p. refl)

pub share_node_canonical : IsCanonical share_node_code
share_node_canonical = row_canonical
    (quadruple_canonical text_canonical bool_canonical u64_canonical (list_canonical u32_code u32_canonical))
    _ _ (λ r. refl) (λ p. refl)

sort_method_back : (r : SortMethod) → sort_method_from_parts (sort_method_parts r) ≡ r
sort_method_back SortMethod.Load = refl
sort_method_back SortMethod.Seqno = refl

sort_method_same : (x : SortMethodParts) → sort_method_parts (sort_method_from_parts x) ≡ x
sort_method_same (inl x) = refl
sort_method_same (inr x) = refl

pub sort_method_canonical : IsCanonical sort_method_code
sort_method_canonical = row_canonical (cases_canonical (or_are empty_canonical (last_are empty_canonical)) (omega arith)) _ _ sort_method_back sort_method_same

pub sched_canonical : IsCanonical sched_code
sched_canonical = row_canonical
    (quintuple_canonical
    (quadruple_canonical u64_canonical u64_canonical sort_method_canonical text_canonical)
    (quintuple_canonical u64_canonical u64_canonical u64_canonical u64_canonical u64_canonical)
    (quintuple_canonical u64_canonical u64_canonical u64_canonical u64_canonical u64_canonical)
    (triple_canonical u64_canonical u64_canonical u64_canonical)
    (quadruple_canonical u64_canonical u64_canonical u64_canonical u64_canonical))
    _ _ (λ r. refl) (λ p. refl)
