-- The words of options (qsub, qalter).
use Rattle.std.specs.Prelude.{ℕ, Bool, true, false, not, ◌&&◌, ◌||◌, if◌then◌else◌, List, [], ◌∷◌, length, drop, nat_le, is_some, codes}
use Rattle.std.specs.List.{list_all}
use Rattle.ge_rows.specs.Keyed.{text_eq}
use Rattle.ge_model_grammar.specs.Names.{is_name, is_job_name, is_job_name_byte}
use Rattle.ge_model_rows.specs.Pieces.{is_empty, pieces_at, before_byte, behind_byte, has_byte, is_digits, is_one_of}
use Rattle.ge_model_rows.specs.Ranges.{range_of}
use Rattle.ge_model_grammar.specs.declared.WordForm.{WordForm}
use Rattle.ge_model_grammar.specs.declared.WordForm.TheVariants.{JobName, Asked, Queues, Name, Slots, Tasks, Jobs, Signed, Digits, Answer, Account, Any}
use Rattle.ge_model_grammar.specs.Lines.{begins_with}
use Rattle.ge_model_grammar.specs.Options.{slot_range_of}

-- items that commas join, each of which passes
abbrev pub all_items : (List ℕ → Bool) → List ℕ → Bool
all_items test text = list_all test (pieces_at 44 text)

-- an attribute asked for, with or without its value (-l)
abbrev pub is_asked : List ℕ → Bool
is_asked item = is_name (before_byte 61 item)

-- what stands behind an @ in a pattern of -q: a pattern of hosts, or @ and one of groups
abbrev pub is_host_part : List ℕ → Bool
is_host_part part = not (is_empty part) && not (text_eq part (codes "@"))

-- queue, queue@host or queue@@group: the first @ parts them, and no part is empty (-q)
abbrev pub is_queue_item : List ℕ → Bool
is_queue_item item = not (is_empty (before_byte 64 item)) && (not (has_byte 64 item) || is_host_part (behind_byte 64 item))

-- a job's number or a pattern of names (-hold_jid)
abbrev pub is_job_item : List ℕ → Bool
is_job_item item = not (is_empty item)

-- a text without the - in front of it
abbrev pub unsigned : List ℕ → List ℕ
unsigned text = if begins_with (codes "-") text then drop 1 text else text

-- 1 to 128 bytes that a job name may have (-A)
abbrev pub is_account : List ℕ → Bool
is_account text = nat_le 1 (length text) && nat_le (length text) 128 && list_all is_job_name_byte text

-- whether a word has a form
abbrev pub has_form : WordForm → List ℕ → Bool
has_form JobName word = is_job_name word
has_form Asked word = all_items is_asked word
has_form Queues word = all_items is_queue_item word
has_form Name word = is_name word
has_form Slots word = is_some (slot_range_of word)
has_form Tasks word = is_some (range_of word)
has_form Jobs word = all_items is_job_item word
has_form Signed word = is_digits (unsigned word)
has_form Digits word = is_digits word
has_form Answer word = is_one_of word (codes "y" ∷ codes "yes" ∷ codes "n" ∷ codes "no" ∷ [])
has_form Account word = is_account word
has_form Any word = true

-- whether words have these forms, one after the other
abbrev pub have_forms : List WordForm → List (List ℕ) → Bool
have_forms [] [] = true
have_forms [] (word ∷ words) = false
have_forms (form ∷ forms) [] = false
have_forms (form ∷ forms) (word ∷ words) = has_form form word && have_forms forms words
