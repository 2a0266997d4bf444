use Rattle.std.proofs.Common.{◌≡◌, ◌∙◌, sym, ap, map, Some}
use Rattle.std.specs.Prelude.{string_bytes}
use Rattle.ge_gridacct.specs.Words.{word_of, name_in}
use Rattle.ge_gridacct.specs.declared.words.Word.TheVariants as word
use Rattle.ge_gridacct.proofs.Answered.{flush_answered, look_answered}
use Rattle.ge_gridacct.proofs.Asked.{asked_lines, asked_total, asked_owner}
use Rattle.ge_gridacct.proofs.top.gridacct.Goals as goal

pub returns-in-Some-Flush-clause-flush_answered : goal.returns-in-Some-Flush-clause-flush_answered
returns-in-Some-Flush-clause-flush_answered g c = λ asks able. flush_answered _ _ _ _ _ able c.flush.ensures

pub returns-in-Some-Look-clause-look_answered : goal.returns-in-Some-Look-clause-look_answered
returns-in-Some-Look-clause-look_answered g c = λ what asks able. look_answered _ _ _ _ able c.look.ensures

pub returns-in-Some-Look-clause-shown : goal.returns-in-Some-Look-clause-shown
returns-in-Some-Look-clause-shown g c =
    let said : word_of (map string_bytes c.args.words.now.items) ≡ Some (word.Look c.in-Some-Look.what) =
    sym (rw c.as_slice.ensures.value at c.read_words.ensures) ∙ c.in-Some-Look.is ∙ ap Some c.in-Some-Look.field-0-is in
    asked_lines (word_of (map string_bytes c.args.words.now.items)) c.in-Some-Look.what said c.look.result c.name_of.result.now _ _ c.look.ensures

pub returns-in-Some-Look-clause-summed : goal.returns-in-Some-Look-clause-summed
returns-in-Some-Look-clause-summed g c =
    let said : word_of (map string_bytes c.args.words.now.items) ≡ Some (word.Look c.in-Some-Look.what) =
    sym (rw c.as_slice.ensures.value at c.read_words.ensures) ∙ c.in-Some-Look.is ∙ ap Some c.in-Some-Look.field-0-is in
    asked_total (word_of (map string_bytes c.args.words.now.items)) c.in-Some-Look.what said c.look.result c.name_of.result.now _ _ c.look.ensures

pub returns-in-Some-Look-clause-summed_of : goal.returns-in-Some-Look-clause-summed_of
returns-in-Some-Look-clause-summed_of g c =
    let said : word_of (map string_bytes c.args.words.now.items) ≡ Some (word.Look c.in-Some-Look.what) =
    sym (rw c.as_slice.ensures.value at c.read_words.ensures) ∙ c.in-Some-Look.is ∙ ap Some c.in-Some-Look.field-0-is in
    asked_owner (word_of (map string_bytes c.args.words.now.items)) c.in-Some-Look.what said c.look.result
    (name_in (map string_bytes c.args.words.now.items)) _ _ (rw (c.name_of.ensures, c.as_slice-in-Some-Look.ensures.value) at c.look.ensures)
