use Rattle.std.proofs.Common.{◌≡◌, ◌∙◌, sym, ap, subst, refl, false, take, drop, Ok, Err}
use Rattle.std.specs.Result.{is_err}
use Rattle.ge_model_journal.specs.Area.{head, records_of}
use Rattle.ge_model_journal.specs.Journal.{picked, area_number, state_of}
use Rattle.ge_model_journal.specs.declared.Head.TheVariants.{Sound}
use Rattle.ge_spool.specs.Heads.{IsLower, is_sound}
use Rattle.ge_spool.proofs.Settling.{AtRest, settled-again, quiet-picked, from-ok}
use Rattle.ge_spool.proofs.ShortAreas.{quiet-head, meaning-chosen, opened-at-rest, read_state, records_of-rest, finds-quiet, opens-fault}
use Rattle.ge_spool.proofs.Meanings.{choice-lower}
use Rattle.ge_spool.proofs.Openings.{opened-chosen}
use Rattle.ge_spool.proofs.opening.open_chosen.Goals as goal

pub returns-in-Err-clause-opened : goal.returns-in-Err-clause-opened
returns-in-Err-clause-opened g c = λ bytes_a bytes_b quiet_a quiet_b.
    let second = c.args.choice.0 in
    let header = c.args.choice.1 in
    let told_a = g.D.Disk.told c.args.a.now in
    let told_b = g.D.Disk.told c.args.b.now in
    let is_a = quiet-head told_a bytes_a c.args.look_a.0 c.args.look_a.1 quiet_a c.requires.head_a in
    let is_b = quiet-head told_b bytes_b c.args.look_b.0 c.args.look_b.1 quiet_b c.requires.head_b in
    let sound : picked second (head bytes_a) (head bytes_b) ≡ Sound header =
    subst (λ h. picked second h (head bytes_b) ≡ Sound header) is_a (subst (λ h. picked second c.args.look_a.1 h ≡ Sound header) is_b c.requires.chosen) in
    let lower : IsLower (picked second (head bytes_b) (head bytes_a)) header.generation =
    subst (λ h. IsLower (picked second (head bytes_b) h) header.generation) is_a (subst (λ h. IsLower (picked second h c.args.look_a.1) header.generation) is_b c.requires.lower) in
    let both = quiet-picked second told_a told_b bytes_a bytes_b quiet_a quiet_b in
    opens-fault c.in-Err.fault second bytes_a bytes_b _ _ header sound lower
    (finds-quiet (Err c.in-Err.fault) (area_number second) header.size (picked second told_a told_b) (picked second bytes_a bytes_b) both c.in-Err.ensures.found)

pub returns-clause-opened : goal.returns-clause-opened
returns-clause-opened g c = λ bytes_a bytes_b quiet_a quiet_b.
    let second = c.args.choice.0 in
    let header = c.args.choice.1 in
    let told_a = g.D.Disk.told c.args.a.now in
    let told_b = g.D.Disk.told c.args.b.now in
    let is_a = quiet-head told_a bytes_a c.args.look_a.0 c.args.look_a.1 quiet_a c.requires.head_a in
    let is_b = quiet-head told_b bytes_b c.args.look_b.0 c.args.look_b.1 quiet_b c.requires.head_b in
    let sound : picked second (head bytes_a) (head bytes_b) ≡ Sound header =
    subst (λ h. picked second h (head bytes_b) ≡ Sound header) is_a (subst (λ h. picked second c.args.look_a.1 h ≡ Sound header) is_b c.requires.chosen) in
    let lower : IsLower (picked second (head bytes_b) (head bytes_a)) header.generation =
    subst (λ h. IsLower (picked second (head bytes_b) h) header.generation) is_a (subst (λ h. IsLower (picked second h c.args.look_a.1) header.generation) is_b c.requires.lower) in
    let both = quiet-picked second told_a told_b bytes_a bytes_b quiet_a quiet_b in
    let found = c.in-Ok.found in
    let chosen = picked second bytes_a bytes_b in
    let read = finds-quiet (Ok c.in-Ok.found) (area_number second) header.size (picked second told_a told_b) (picked second bytes_a bytes_b) both c.in-Ok.ensures.found in
    let listed : records_of header.size (picked second bytes_a bytes_b) ≡ Ok (c.in-Ok.found.records, c.in-Ok.found.end) = sym (records_of-rest header.size (picked second bytes_a bytes_b)) ∙ read.0 in
    let sure : is_err c.pad_both.result ≡ false = sym c.is_err.ensures.value ∙ c.if-is_err.false in
    let new_a = g.D.Disk.told c.pad_both.new.a in
    let new_b = g.D.Disk.told c.pad_both.new.b in
    let still_a = from-ok c.pad_both.result _ sure c.pad_both.ensures.quiet_a bytes_a (rw c.find_chosen.ensures.told_a quiet_a) in
    let still_b = from-ok c.pad_both.result _ sure c.pad_both.ensures.quiet_b bytes_b (rw c.find_chosen.ensures.told_b quiet_b) in
    let flag : is_sound (picked second (head bytes_b) (head bytes_a)) ≡ c.is_open-other_open.result =
    sym (c.is_open-other_open.ensures ∙ ap is_sound (c.pick-other_head.ensures ∙ ap (λ h. picked second h c.args.look_a.1) is_b ∙ ap (λ h. picked second (head bytes_b) h) is_a)) in
    let rest = opened-at-rest second new_a new_b bytes_a bytes_b header c.in-Ok.found.snapshot c.in-Ok.found.records c.in-Ok.found.end
    still_a still_b sound lower listed read.1 in
    opened-chosen _ _ bytes_a bytes_b new_a new_b second header
    (settled-again _ _ _ (read_state header c.in-Ok.found.snapshot c.in-Ok.found.records)
    (subst (λ f. AtRest second new_a new_b (read_state header c.in-Ok.found.snapshot c.in-Ok.found.records) c.in-Ok.found.end f) flag rest)
    refl refl refl c.len.ensures)
    (meaning-chosen second bytes_a bytes_b header sound lower
    ∙ ap (λ r. state_of (area_number second) header (take header.size (drop 18 (picked second bytes_a bytes_b))) r) listed
    ∙ ap (λ xs. Ok (read_state header xs c.in-Ok.found.records)) (sym read.1))
    c.number_of.ensures (choice-lower second (head bytes_a) (head bytes_b) header sound lower) still_a still_b
