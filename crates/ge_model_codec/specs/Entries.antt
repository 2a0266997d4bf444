-- The codes of entries and what they change.
use Rattle.std.specs.Prelude.{ℕ, Bool, List, ◌⊎◌}
use Rattle.std.specs.Ordering.{nat_cmp}
use Rattle.std.proofs.Common.{inl, inr}
use Rattle.ge_rows.specs.Keyed.{text_cmp}
use Rattle.ge_model_rows.specs.EntryRows.{Entry, Change, Item, ObjectKind, Key, Pick, Patch}
use Rattle.ge_model_rows.specs.JobRows.{Job, Advance}
use Rattle.ge_model_rows.specs.PeRows.{PeRow}
use Rattle.ge_model_rows.specs.PeopleRows.{UserRow, ProjectRow, ShareNode}
use Rattle.ge_model_rows.specs.QueueRows.{QueueRow}
use Rattle.ge_model_rows.specs.QuotaRows.{QuotaRow}
use Rattle.ge_model_rows.specs.ScheduleRows.{Start}
use Rattle.ge_model_rows.specs.SettingRows.{Sched}
use Rattle.ge_model_rows.specs.ValueRows.{Value, ComplexDef}
use Rattle.ge_model_codec.specs.Reading.{Reading, made}
use Rattle.ge_model_codec.specs.Code.{Code, Cases, u8_code, u32_code, u64_code, signed_code, bool_code, text_code, list_code, option_code, table_code, pair_code, ◌⊗◌, row_code, empty_code, triple_code, quadruple_code, quintuple_code, last_case, ◌⊕◌, first_cases, cases_code}
use Rattle.ge_model_codec.specs.Configured.{complex_def_code, complex_def_code_1, pe_row_code, project_row_code, queue_row_code, quota_row_code, sched_code, share_node_code, user_row_code, values_code, texts_code}
use Rattle.ge_model_codec.specs.Jobs.{job_code, job_code_1, advance_code, request_code, start_code, task_set_code}

-- a target
abbrev pub pick_code : Code Pick
pick_code = row_code
    (u32_code ⊗ (option_code task_set_code))
    (λ r. (r.job, r.tasks))
    (λ p. record { job = p.0; tasks = p.1 })

-- a patch
abbrev pub patch_code : Code Patch
patch_code = row_code
    (triple_code
    (quadruple_code (option_code text_code) (option_code request_code) (option_code signed_code) (option_code u64_code))
    (quadruple_code (option_code text_code) (option_code bool_code) (option_code u64_code) (option_code u64_code))
    (quadruple_code (option_code text_code) (option_code (list_code u32_code)) (option_code (list_code u32_code))
    (option_code u64_code)))
    (λ r. (
      (r.name, r.request, r.priority, r.share),
      (r.project, r.reserve, r.not_before, r.deadline),
      (r.account, r.after, r.after_each, r.oticket),
    ))
    (λ p. record {
      name = p.0.0;
      request = p.0.1;
      priority = p.0.2;
      share = p.0.3;
      project = p.1.0;
      reserve = p.1.1;
      not_before = p.1.2;
      deadline = p.1.3;
      account = p.2.0;
      after = p.2.1;
      after_each = p.2.2;
      oticket = p.2.3;
    })

-- a configured object
abbrev pub ItemParts : Type 0
ItemParts =
    List (List ℕ × ComplexDef) ⊎
    List ℕ × (List (List ℕ × Value)) ⊎
    List ℕ × (List (List ℕ)) ⊎
    List ℕ × QueueRow ⊎
    List ℕ × PeRow ⊎
    List ℕ × QuotaRow ⊎
    List ℕ × (List (List ℕ)) ⊎
    List ℕ × UserRow ⊎
    List ℕ × ProjectRow ⊎
    (List (ℕ × ShareNode)) ⊎
    Sched ⊎
    List (List ℕ) ⊎
    List (List ℕ)

abbrev pub item_parts : Item → ItemParts
item_parts (Item.Complexes a) = inl a
item_parts (Item.Host a b) = inr (inl (a, b))
item_parts (Item.Group a b) = inr (inr (inl (a, b)))
item_parts (Item.Queue a b) = inr (inr (inr (inl (a, b))))
item_parts (Item.Pe a b) = inr (inr (inr (inr (inl (a, b)))))
item_parts (Item.Quota a b) = inr (inr (inr (inr (inr (inl (a, b))))))
item_parts (Item.Set a b) = inr (inr (inr (inr (inr (inr (inl (a, b)))))))
item_parts (Item.User a b) = inr (inr (inr (inr (inr (inr (inr (inl (a, b))))))))
item_parts (Item.Project a b) = inr (inr (inr (inr (inr (inr (inr (inr (inl (a, b)))))))))
item_parts (Item.Shares a) = inr (inr (inr (inr (inr (inr (inr (inr (inr (inl a)))))))))
item_parts (Item.Sched a) = inr (inr (inr (inr (inr (inr (inr (inr (inr (inr (inl a))))))))))
item_parts (Item.Managers a) = inr (inr (inr (inr (inr (inr (inr (inr (inr (inr (inr (inl a)))))))))))
item_parts (Item.Operators a) = inr (inr (inr (inr (inr (inr (inr (inr (inr (inr (inr (inr a)))))))))))

abbrev pub item_from_parts : ItemParts → Item
item_from_parts (inl x) = Item.Complexes x
item_from_parts (inr (inl x)) = Item.Host x.0 x.1
item_from_parts (inr (inr (inl x))) = Item.Group x.0 x.1
item_from_parts (inr (inr (inr (inl x)))) = Item.Queue x.0 x.1
item_from_parts (inr (inr (inr (inr (inl x))))) = Item.Pe x.0 x.1
item_from_parts (inr (inr (inr (inr (inr (inl x)))))) = Item.Quota x.0 x.1
item_from_parts (inr (inr (inr (inr (inr (inr (inl x))))))) = Item.Set x.0 x.1
item_from_parts (inr (inr (inr (inr (inr (inr (inr (inl x)))))))) = Item.User x.0 x.1
item_from_parts (inr (inr (inr (inr (inr (inr (inr (inr (inl x))))))))) = Item.Project x.0 x.1
item_from_parts (inr (inr (inr (inr (inr (inr (inr (inr (inr (inl x)))))))))) = Item.Shares x
item_from_parts (inr (inr (inr (inr (inr (inr (inr (inr (inr (inr (inl x))))))))))) = Item.Sched x
item_from_parts (inr (inr (inr (inr (inr (inr (inr (inr (inr (inr (inr (inl x)))))))))))) = Item.Managers x
item_from_parts (inr (inr (inr (inr (inr (inr (inr (inr (inr (inr (inr (inr x)))))))))))) = Item.Operators x

-- with this code of the rows of the complex table
abbrev pub item_cases : Code ComplexDef → Cases ItemParts
item_cases complex =
    table_code text_cmp text_code complex ⊕
    (text_code ⊗ values_code) ⊕
    (text_code ⊗ texts_code) ⊕
    (text_code ⊗ queue_row_code) ⊕
    (text_code ⊗ pe_row_code) ⊕
    (text_code ⊗ quota_row_code) ⊕
    (text_code ⊗ texts_code) ⊕
    (text_code ⊗ user_row_code) ⊕
    (text_code ⊗ project_row_code) ⊕
    (table_code nat_cmp u32_code share_node_code) ⊕
    sched_code ⊕
    texts_code ⊕
    last_case texts_code

-- an object of this variant, its fields read at a place
abbrev pub item_read_at : Code ComplexDef → ℕ → List ℕ → ℕ → Reading Item
item_read_at complex tag bytes at = made item_from_parts ((item_cases complex).read_as tag bytes at)

abbrev pub item_code_with : Code ComplexDef → Code Item
item_code_with complex = row_code (cases_code (item_cases complex)) item_parts item_from_parts

abbrev pub item_code : Code Item
item_code = item_code_with complex_def_code

abbrev pub item_code_1 : Code Item
item_code_1 = item_code_with complex_def_code_1

-- the sort of an object
abbrev pub ObjectKindParts : Type 0
ObjectKindParts =
    Unit {0} ⊎ Unit {0} ⊎ Unit {0} ⊎ Unit {0} ⊎ Unit {0} ⊎ Unit {0} ⊎ Unit {0} ⊎
    Unit {0} ⊎ Unit {0} ⊎ Unit {0} ⊎ Unit {0} ⊎ Unit {0} ⊎ Unit {0}

abbrev pub object_kind_parts : ObjectKind → ObjectKindParts
object_kind_parts ObjectKind.Complexes = inl tt
object_kind_parts ObjectKind.Host = inr (inl tt)
object_kind_parts ObjectKind.Group = inr (inr (inl tt))
object_kind_parts ObjectKind.Queue = inr (inr (inr (inl tt)))
object_kind_parts ObjectKind.Pe = inr (inr (inr (inr (inl tt))))
object_kind_parts ObjectKind.Quota = inr (inr (inr (inr (inr (inl tt)))))
object_kind_parts ObjectKind.Set = inr (inr (inr (inr (inr (inr (inl tt))))))
object_kind_parts ObjectKind.User = inr (inr (inr (inr (inr (inr (inr (inl tt)))))))
object_kind_parts ObjectKind.Project = inr (inr (inr (inr (inr (inr (inr (inr (inl tt))))))))
object_kind_parts ObjectKind.Shares = inr (inr (inr (inr (inr (inr (inr (inr (inr (inl tt)))))))))
object_kind_parts ObjectKind.Sched = inr (inr (inr (inr (inr (inr (inr (inr (inr (inr (inl tt))))))))))
object_kind_parts ObjectKind.Managers = inr (inr (inr (inr (inr (inr (inr (inr (inr (inr (inr (inl tt)))))))))))
object_kind_parts ObjectKind.Operators = inr (inr (inr (inr (inr (inr (inr (inr (inr (inr (inr (inr tt)))))))))))

abbrev pub object_kind_from_parts : ObjectKindParts → ObjectKind
object_kind_from_parts (inl u) = ObjectKind.Complexes
object_kind_from_parts (inr (inl u)) = ObjectKind.Host
object_kind_from_parts (inr (inr (inl u))) = ObjectKind.Group
object_kind_from_parts (inr (inr (inr (inl u)))) = ObjectKind.Queue
object_kind_from_parts (inr (inr (inr (inr (inl u))))) = ObjectKind.Pe
object_kind_from_parts (inr (inr (inr (inr (inr (inl u)))))) = ObjectKind.Quota
object_kind_from_parts (inr (inr (inr (inr (inr (inr (inl u))))))) = ObjectKind.Set
object_kind_from_parts (inr (inr (inr (inr (inr (inr (inr (inl u)))))))) = ObjectKind.User
object_kind_from_parts (inr (inr (inr (inr (inr (inr (inr (inr (inl u))))))))) = ObjectKind.Project
object_kind_from_parts (inr (inr (inr (inr (inr (inr (inr (inr (inr (inl u)))))))))) = ObjectKind.Shares
object_kind_from_parts (inr (inr (inr (inr (inr (inr (inr (inr (inr (inr (inl u))))))))))) = ObjectKind.Sched
object_kind_from_parts (inr (inr (inr (inr (inr (inr (inr (inr (inr (inr (inr (inl u)))))))))))) = ObjectKind.Managers
object_kind_from_parts (inr (inr (inr (inr (inr (inr (inr (inr (inr (inr (inr (inr u)))))))))))) = ObjectKind.Operators

abbrev pub object_kind_cases : Cases ObjectKindParts
object_kind_cases =
    empty_code ⊕ empty_code ⊕ empty_code ⊕ empty_code ⊕ empty_code ⊕ empty_code ⊕
    empty_code ⊕ empty_code ⊕ empty_code ⊕ empty_code ⊕ empty_code ⊕ empty_code ⊕ last_case empty_code

abbrev pub object_kind_code : Code ObjectKind
object_kind_code = row_code (cases_code object_kind_cases) object_kind_parts object_kind_from_parts

-- the name of an object
abbrev pub key_code : Code Key
key_code = row_code
    (object_kind_code ⊗ text_code)
    (λ r. (r.kind, r.name))
    (λ p. record { kind = p.0; name = p.1 })

-- a change
abbrev pub ChangeParts : Type 0
ChangeParts =
    Job ⊎
    (List (ℕ × Patch)) ⊎
    List ℕ × ℕ ⊎
    List ℕ × ℕ ⊎
    (List Pick) × Bool ⊎
    List Pick ⊎
    Item ⊎
    Key ⊎
    List ℕ × (List (List ℕ × Value)) ⊎
    (ℕ × ℕ × ℕ × ℕ × ℕ) ⊎
    List Start ⊎
    Advance ⊎
    List ℕ

abbrev pub change_parts : Change → ChangeParts
change_parts (Change.Submit a) = inl a
change_parts (Change.Alter a) = inr (inl a)
change_parts (Change.Hold a b) = inr (inr (inl (a, b)))
change_parts (Change.Release a b) = inr (inr (inr (inl (a, b))))
change_parts (Change.Delete a b) = inr (inr (inr (inr (inl (a, b)))))
change_parts (Change.Clear a) = inr (inr (inr (inr (inr (inl a)))))
change_parts (Change.Put a) = inr (inr (inr (inr (inr (inr (inl a))))))
change_parts (Change.Drop a) = inr (inr (inr (inr (inr (inr (inr (inl a)))))))
change_parts (Change.Load a b) = inr (inr (inr (inr (inr (inr (inr (inr (inl (a, b)))))))))
change_parts (Change.End a b c d e) = inr (inr (inr (inr (inr (inr (inr (inr (inr (inl (a, b, c, d, e))))))))))
change_parts (Change.Run a) = inr (inr (inr (inr (inr (inr (inr (inr (inr (inr (inl a))))))))))
change_parts (Change.Book a) = inr (inr (inr (inr (inr (inr (inr (inr (inr (inr (inr (inl a)))))))))))
change_parts (Change.Unbook a) = inr (inr (inr (inr (inr (inr (inr (inr (inr (inr (inr (inr a)))))))))))

abbrev pub change_from_parts : ChangeParts → Change
change_from_parts (inl x) = Change.Submit x
change_from_parts (inr (inl x)) = Change.Alter x
change_from_parts (inr (inr (inl x))) = Change.Hold x.0 x.1
change_from_parts (inr (inr (inr (inl x)))) = Change.Release x.0 x.1
change_from_parts (inr (inr (inr (inr (inl x))))) = Change.Delete x.0 x.1
change_from_parts (inr (inr (inr (inr (inr (inl x)))))) = Change.Clear x
change_from_parts (inr (inr (inr (inr (inr (inr (inl x))))))) = Change.Put x
change_from_parts (inr (inr (inr (inr (inr (inr (inr (inl x)))))))) = Change.Drop x
change_from_parts (inr (inr (inr (inr (inr (inr (inr (inr (inl x))))))))) = Change.Load x.0 x.1
change_from_parts (inr (inr (inr (inr (inr (inr (inr (inr (inr (inl x)))))))))) = Change.End x.0 x.1 x.2 x.3 x.4
change_from_parts (inr (inr (inr (inr (inr (inr (inr (inr (inr (inr (inl x))))))))))) = Change.Run x
change_from_parts (inr (inr (inr (inr (inr (inr (inr (inr (inr (inr (inr (inl x)))))))))))) = Change.Book x
change_from_parts (inr (inr (inr (inr (inr (inr (inr (inr (inr (inr (inr (inr x)))))))))))) = Change.Unbook x

-- with these codes of a job and of an object
abbrev pub change_cases : Code Job → Code Item → Cases ChangeParts
change_cases job object =
    job ⊕
    (list_code (pair_code u32_code patch_code)) ⊕
    ((list_code u32_code) ⊗ u8_code) ⊕
    ((list_code u32_code) ⊗ u8_code) ⊕
    ((list_code pick_code) ⊗ bool_code) ⊕
    (list_code pick_code) ⊕
    object ⊕
    key_code ⊕
    (text_code ⊗ values_code) ⊕
    quintuple_code u64_code u32_code u64_code u64_code u64_code ⊕
    (list_code start_code) ⊕
    advance_code ⊕
    last_case (list_code u32_code)

-- a change of this variant, its fields read at a place
abbrev pub change_at : Code Job → Code Item → ℕ → List ℕ → ℕ → Reading Change
change_at job object tag bytes at = made change_from_parts ((change_cases job object).read_as tag bytes at)

abbrev pub change_code : Code Change
change_code = row_code (cases_code (change_cases job_code item_code)) change_parts change_from_parts

-- the first so many changes, with these codes of a job and of an object
abbrev pub first_changes_code : ℕ → Code Job → Code Item → Code Change
first_changes_code count job object =
    row_code (cases_code (first_cases count (change_cases job object))) change_parts change_from_parts

-- a change before there were advance reservations: none is booked or taken back
abbrev pub change_code_1 : Code Change
change_code_1 = first_changes_code 11 job_code_1 item_code_1

-- an entry, with this code of the change
abbrev pub entry_code_with : Code Change → Code Entry
entry_code_with change = row_code
    (u64_code ⊗ change)
    (λ r. (r.moment, r.change))
    (λ p. record { moment = p.0; change = p.1 })

abbrev pub entry_code : Code Entry
entry_code = entry_code_with change_code

-- an entry of format 1
abbrev pub entry_code_1 : Code Entry
entry_code_1 = entry_code_with change_code_1
