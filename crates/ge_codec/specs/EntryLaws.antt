-- The rows are canonical.
use Rattle.std.proofs.Common.{◌≡◌, ℕ, Bool, List, refl, arith, inl, inr, ◌⊎◌}
use Rattle.std.specs.Ordering.{nat_cmp}
use Rattle.ge_rows.specs.Keyed.{text_cmp}
use Rattle.ge_model_rows.specs.EntryRows.{Change, Item, ObjectKind, Key, Pick, Patch}
use Rattle.ge_model_rows.specs.JobRows.{Job, Advance}
use Rattle.ge_model_rows.specs.PeRows.{PeRow}
use Rattle.ge_model_rows.specs.PeopleRows.{UserRow, ProjectRow, ShareNode}
use Rattle.ge_model_rows.specs.QueueRows.{QueueRow}
use Rattle.ge_model_rows.specs.QuotaRows.{QuotaRow}
use Rattle.ge_model_rows.specs.ScheduleRows.{Start}
use Rattle.ge_model_rows.specs.SettingRows.{Sched}
use Rattle.ge_model_rows.specs.ValueRows.{Value, ComplexDef}
use Rattle.ge_model_codec.specs.Code.{Code, u32_code, u64_code, signed_code, bool_code, text_code, list_code, pair_code}
use Rattle.ge_model_codec.specs.Canonical.{IsCanonical}
use Rattle.ge_model_codec.specs.Entries.{pick_code, patch_code, ItemParts, item_cases, item_code, item_code_1, item_parts, item_from_parts, ObjectKindParts, object_kind_code, object_kind_parts, object_kind_from_parts, key_code, ChangeParts, change_cases, change_code, change_code_1, change_parts, change_from_parts, entry_code, entry_code_1}
use Rattle.ge_model_codec.specs.Configured.{complex_def_code, complex_def_code_1, share_node_code}
use Rattle.ge_codec.specs.ConfiguredLaws.{complex_def_canonical, complex_def_canonical_1, values_canonical, texts_canonical, pe_row_canonical, project_row_canonical, queue_row_canonical, quota_row_canonical, sched_canonical, share_node_canonical, user_row_canonical}
use Rattle.ge_model_codec.specs.Jobs.{request_code, start_code, advance_code, task_set_code}
use Rattle.ge_codec.specs.JobLaws.{job_canonical, job_canonical_1, request_canonical, start_canonical, task_set_canonical, advance_canonical}
use Rattle.ge_codec.specs.Numbers.{u8_canonical, u32_canonical, u64_canonical}
use Rattle.ge_codec.specs.Parts.{bool_canonical, text_canonical, list_canonical, option_canonical}
use Rattle.ge_codec.specs.Entries.{table_canonical}
use Rattle.ge_codec.specs.Variants.{AreCases, last_are, first_are, or_are, cases_canonical, signed_canonical}
use Rattle.ge_codec.specs.Laws.{pair_canonical, triple_canonical, quadruple_canonical, quintuple_canonical, empty_canonical, row_canonical}

pub pick_canonical : IsCanonical pick_code
pick_canonical = row_canonical (pair_canonical u32_canonical (option_canonical task_set_code task_set_canonical)) _ _ (λ r. refl) (λ p. refl)

numbers_canonical : IsCanonical (list_code u32_code)
numbers_canonical = list_canonical u32_code u32_canonical

pub patch_canonical : IsCanonical patch_code
patch_canonical = row_canonical
    (triple_canonical
    (quadruple_canonical (option_canonical text_code text_canonical) (option_canonical request_code request_canonical)
    (option_canonical signed_code signed_canonical) (option_canonical u64_code u64_canonical))
    (quadruple_canonical (option_canonical text_code text_canonical) (option_canonical bool_code bool_canonical)
    (option_canonical u64_code u64_canonical) (option_canonical u64_code u64_canonical))
    (quadruple_canonical (option_canonical text_code text_canonical) (option_canonical (list_code u32_code) numbers_canonical)
    (option_canonical (list_code u32_code) numbers_canonical) (option_canonical u64_code u64_canonical)))
    _ _ (λ r. refl) (λ p. refl)

item_back : (r : Item) → item_from_parts (item_parts r) ≡ r
item_back (Item.Complexes a) = refl
item_back (Item.Host a b) = refl
item_back (Item.Group a b) = refl
item_back (Item.Queue a b) = refl
item_back (Item.Pe a b) = refl
item_back (Item.Quota a b) = refl
item_back (Item.Set a b) = refl
item_back (Item.User a b) = refl
item_back (Item.Project a b) = refl
item_back (Item.Shares a) = refl
item_back (Item.Sched a) = refl
item_back (Item.Managers a) = refl
item_back (Item.Operators a) = refl

item_same : (x : ItemParts) → item_parts (item_from_parts x) ≡ x
item_same (inl x) = refl
item_same (inr (inl x)) = refl
item_same (inr (inr (inl x))) = refl
item_same (inr (inr (inr (inl x)))) = refl
item_same (inr (inr (inr (inr (inl x))))) = refl
item_same (inr (inr (inr (inr (inr (inl x)))))) = refl
item_same (inr (inr (inr (inr (inr (inr (inl x))))))) = refl
item_same (inr (inr (inr (inr (inr (inr (inr (inl x)))))))) = refl
item_same (inr (inr (inr (inr (inr (inr (inr (inr (inl x))))))))) = refl
item_same (inr (inr (inr (inr (inr (inr (inr (inr (inr (inl x)))))))))) = refl
item_same (inr (inr (inr (inr (inr (inr (inr (inr (inr (inr (inl x))))))))))) = refl
item_same (inr (inr (inr (inr (inr (inr (inr (inr (inr (inr (inr (inl x)))))))))))) = refl
item_same (inr (inr (inr (inr (inr (inr (inr (inr (inr (inr (inr (inr x)))))))))))) = refl

item_are : (complex : Code ComplexDef) → IsCanonical complex → AreCases (item_cases complex)
item_are complex c = or_are (table_canonical text_cmp text_code complex text_canonical c)
    (or_are (pair_canonical text_canonical values_canonical)
    (or_are (pair_canonical text_canonical texts_canonical)
    (or_are (pair_canonical text_canonical queue_row_canonical)
    (or_are (pair_canonical text_canonical pe_row_canonical)
    (or_are (pair_canonical text_canonical quota_row_canonical)
    (or_are (pair_canonical text_canonical texts_canonical)
    (or_are (pair_canonical text_canonical user_row_canonical)
    (or_are (pair_canonical text_canonical project_row_canonical)
    (or_are (table_canonical nat_cmp u32_code share_node_code u32_canonical share_node_canonical)
    (or_are sched_canonical
    (or_are texts_canonical
    (last_are texts_canonical))))))))))))

pub item_canonical : IsCanonical item_code
item_canonical = row_canonical
    (cases_canonical (item_are complex_def_code complex_def_canonical) (omega arith)) _ _ item_back item_same

pub item_canonical_1 : IsCanonical item_code_1
item_canonical_1 = row_canonical
    (cases_canonical (item_are complex_def_code_1 complex_def_canonical_1) (omega arith)) _ _ item_back item_same

object_kind_back : (r : ObjectKind) → object_kind_from_parts (object_kind_parts r) ≡ r
object_kind_back ObjectKind.Complexes = refl
object_kind_back ObjectKind.Host = refl
object_kind_back ObjectKind.Group = refl
object_kind_back ObjectKind.Queue = refl
object_kind_back ObjectKind.Pe = refl
object_kind_back ObjectKind.Quota = refl
object_kind_back ObjectKind.Set = refl
object_kind_back ObjectKind.User = refl
object_kind_back ObjectKind.Project = refl
object_kind_back ObjectKind.Shares = refl
object_kind_back ObjectKind.Sched = refl
object_kind_back ObjectKind.Managers = refl
object_kind_back ObjectKind.Operators = refl

object_kind_same : (x : ObjectKindParts) → object_kind_parts (object_kind_from_parts x) ≡ x
object_kind_same (inl x) = refl
object_kind_same (inr (inl x)) = refl
object_kind_same (inr (inr (inl x))) = refl
object_kind_same (inr (inr (inr (inl x)))) = refl
object_kind_same (inr (inr (inr (inr (inl x))))) = refl
object_kind_same (inr (inr (inr (inr (inr (inl x)))))) = refl
object_kind_same (inr (inr (inr (inr (inr (inr (inl x))))))) = refl
object_kind_same (inr (inr (inr (inr (inr (inr (inr (inl x)))))))) = refl
object_kind_same (inr (inr (inr (inr (inr (inr (inr (inr (inl x))))))))) = refl
object_kind_same (inr (inr (inr (inr (inr (inr (inr (inr (inr (inl x)))))))))) = refl
object_kind_same (inr (inr (inr (inr (inr (inr (inr (inr (inr (inr (inl x))))))))))) = refl
object_kind_same (inr (inr (inr (inr (inr (inr (inr (inr (inr (inr (inr (inl x)))))))))))) = refl
object_kind_same (inr (inr (inr (inr (inr (inr (inr (inr (inr (inr (inr (inr x)))))))))))) = refl

pub object_kind_canonical : IsCanonical object_kind_code
object_kind_canonical = row_canonical (cases_canonical (or_are empty_canonical (or_are empty_canonical (or_are empty_canonical (or_are empty_canonical (or_are empty_canonical (or_are empty_canonical (or_are empty_canonical (or_are empty_canonical (or_are empty_canonical (or_are empty_canonical (or_are empty_canonical (or_are empty_canonical (last_are empty_canonical))))))))))))) (omega arith)) _ _ object_kind_back object_kind_same

pub key_canonical : IsCanonical key_code
key_canonical = row_canonical (pair_canonical object_kind_canonical text_canonical) _ _ (λ r. refl) (λ p. refl)

change_back : (r : Change) → change_from_parts (change_parts r) ≡ r
change_back (Change.Submit a) = refl
change_back (Change.Alter a) = refl
change_back (Change.Hold a b) = refl
change_back (Change.Release a b) = refl
change_back (Change.Delete a b) = refl
change_back (Change.Clear a) = refl
change_back (Change.Put a) = refl
change_back (Change.Drop a) = refl
change_back (Change.Load a b) = refl
change_back (Change.End a b c d e) = refl
change_back (Change.Run a) = refl
change_back (Change.Book a) = refl
change_back (Change.Unbook a) = refl

change_same : (x : ChangeParts) → change_parts (change_from_parts x) ≡ x
change_same (inl x) = refl
change_same (inr (inl x)) = refl
change_same (inr (inr (inl x))) = refl
change_same (inr (inr (inr (inl x)))) = refl
change_same (inr (inr (inr (inr (inl x))))) = refl
change_same (inr (inr (inr (inr (inr (inl x)))))) = refl
change_same (inr (inr (inr (inr (inr (inr (inl x))))))) = refl
change_same (inr (inr (inr (inr (inr (inr (inr (inl x)))))))) = refl
change_same (inr (inr (inr (inr (inr (inr (inr (inr (inl x))))))))) = refl
change_same (inr (inr (inr (inr (inr (inr (inr (inr (inr (inl x)))))))))) = refl
change_same (inr (inr (inr (inr (inr (inr (inr (inr (inr (inr (inl x))))))))))) = refl
change_same (inr (inr (inr (inr (inr (inr (inr (inr (inr (inr (inr (inl x)))))))))))) = refl
change_same (inr (inr (inr (inr (inr (inr (inr (inr (inr (inr (inr (inr x)))))))))))) = refl

change_are : {job : Code Job} {object : Code Item} → IsCanonical job → IsCanonical object → AreCases (change_cases job object)
change_are j o = or_are j
    (or_are (list_canonical (pair_code u32_code patch_code) (pair_canonical u32_canonical patch_canonical))
    (or_are (pair_canonical numbers_canonical u8_canonical)
    (or_are (pair_canonical numbers_canonical u8_canonical)
    (or_are (pair_canonical (list_canonical pick_code pick_canonical) bool_canonical)
    (or_are (list_canonical pick_code pick_canonical)
    (or_are o
    (or_are key_canonical
    (or_are (pair_canonical text_canonical values_canonical)
    (or_are (quintuple_canonical u64_canonical u32_canonical u64_canonical u64_canonical u64_canonical)
    (or_are (list_canonical start_code start_canonical)
    (or_are advance_canonical
    (last_are numbers_canonical))))))))))))

pub change_canonical : IsCanonical change_code
change_canonical = row_canonical
    (cases_canonical (change_are job_canonical item_canonical) (omega arith)) _ _ change_back change_same

pub change_canonical_1 : IsCanonical change_code_1
change_canonical_1 = row_canonical
    (cases_canonical (first_are 11 (omega arith) (change_are job_canonical_1 item_canonical_1)) (omega arith))
    _ _ change_back change_same

pub entry_canonical : IsCanonical entry_code
entry_canonical = row_canonical (pair_canonical u64_canonical change_canonical) _ _ (λ r. refl) (λ p. refl)

pub entry_canonical_1 : IsCanonical entry_code_1
entry_canonical_1 = row_canonical (pair_canonical u64_canonical change_canonical_1) _ _ (λ r. refl) (λ p. refl)
