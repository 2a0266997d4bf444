-- What a stop may leave of a log in the course of its calls.
use Rattle.std.specs.Prelude.{◌≡◌, ℕ, ◌+◌, ◌<◌, false, List, [], ◌∷◌, ◌++◌, length, Ok, refl}
use Rattle.std.proofs.Common.{arith, ◌∙◌, sym, ap, subst, inl, inr, ⊎_elim}
use Rattle.ge_limits.specs.Limits as limit
use Rattle.ge_model_rows.specs.AccountRows.{Line}
use Rattle.ge_model_journal.specs.Disk.{Content, read_bytes, told_synced, settled_content}
use Rattle.ge_spool.specs.Moments.{IsQuiet, Since, since_join, since_weaker, quiet_image, read_bytes-quiet}
use Rattle.ge_spool.specs.Opening.{Tells}
use Rattle.ge_spool.specs.Steps.{IsBehindImage, opened_behind}
use Rattle.ge_model_log.specs.Lines.{lines_in, logged, stands_for, without_end, StandsForOneOf}
use Rattle.ge_acctlog.specs.Gates.{IsClosedAt, with_gate, IsGateImage}
use Rattle.ge_acctlog.specs.Opens.{StandsAlike, HasOpened}
use Rattle.ge_acctlog.specs.Logs.{IsLogged, IsReached}
use Rattle.ge_acctlog.specs.Reads.{ReadsAll}
use Rattle.ge_acctlog.specs.declared.log.Log.{Log}
use Rattle.ge_acctlog.proofs.Parts.{HasRecords}
use Rattle.ge_acctlog.proofs.Closing.{gate-image, gate-done, behind-image, opened-log}
use Rattle.ge_acctlog.proofs.Reached.{reached-start}

-- a quiet disk that is synced stays so
pub quiet-synced : (old new : List Content) (bytes : List ℕ) → IsQuiet old bytes → new ≡ told_synced old → IsQuiet new bytes
quiet-synced [] new bytes quiet synced = absurd quiet
quiet-synced (now ∷ earlier) new bytes quiet synced = rw (synced, quiet) refl

-- and a stop leaves what it held
pub since-synced : (old new : List Content) (bytes : List ℕ) → IsQuiet old bytes → new ≡ told_synced old → Since old new (StandsAlike bytes)
since-synced [] new bytes quiet synced = absurd quiet
since-synced (now ∷ earlier) new bytes quiet synced = record {
  more = settled_content now.bytes ∷ [];
  later = synced;
  each = λ image left. ⊎_elim
      (λ here. let whole : image ≡ bytes = quiet_image (settled_content now.bytes ∷ []) bytes image (rw quiet refl) here in ap stands_for whole)
      (λ none. absurd none) left;
}

-- a disk that tells is quiet once it is synced
pub tells-quiet : (old new : List Content) → Tells old → new ≡ told_synced old → IsQuiet new (read_bytes old)
tells-quiet [] new tells synced = absurd tells
tells-quiet (now ∷ earlier) new tells synced = rw synced refl

pub quiet-tells : (told : List Content) (bytes : List ℕ) → IsQuiet told bytes → Tells told
quiet-tells [] bytes quiet = absurd quiet
quiet-tells (now ∷ earlier) bytes quiet = tt

pub quiet-all : (told : List Content) (bytes read : List ℕ) → IsQuiet told bytes → ReadsAll told read → read ≡ bytes
quiet-all [] bytes read quiet all = absurd quiet
quiet-all (now ∷ earlier) bytes read quiet all = all ∙ ap (λ c. c.bytes) quiet

-- while the end is closed, each image stands for what the disk stood for
pub since-closed : (old mid new : List Content) (bytes : List ℕ) (lines : List Line) (end : ℕ) → IsQuiet old bytes → mid ≡ told_synced old → logged bytes ≡ Ok (lines, end)
    → Since mid new (IsGateImage bytes end) → Since old new (StandsAlike bytes)
since-closed old mid new bytes lines end quiet synced stands since =
    since_join old mid new (StandsAlike bytes) (since-synced old mid bytes quiet synced)
    (since_weaker mid new (IsGateImage bytes end) (StandsAlike bytes) since
    (λ image torn. ap without_end (gate-image lines_in bytes image lines end stands torn) ∙ sym (ap without_end stands)))

-- a log that was opened is at rest
pub opened-rests : (l : Log) (new : List Content) (bytes : List ℕ) (lines : List Line) → l.dead ≡ false → l.count ≡ length lines → l.reached ≡ record { first = 0; next = 0; lines = [] }
    → logged bytes ≡ Ok (lines, l.end) → IsQuiet new (with_gate bytes l.end) → HasOpened l bytes new
opened-rests l new bytes lines alive counted start stands quiet =
    let reads = read_bytes-quiet new (with_gate bytes l.end) quiet in
    let done = gate-done lines_in bytes lines l.end stands in
    let again : logged (read_bytes new) ≡ Ok (lines, l.end) = ap logged reads ∙ done.0 in
    record {
      lines = lines;
      stands = stands;
      rests = record {
        alive = alive;
        quiet = subst (λ b. IsQuiet new b) (sym reads) quiet;
        stands = again;
        closed = λ below. subst (λ b. IsClosedAt b l.end) (sym reads) (done.1 below);
        count = counted;
        reached = subst (λ r. IsReached r (read_bytes new) lines l.end) (sym start) (reached-start (read_bytes new) lines l.end again);
      };
      reads = reads;
    }

-- records were written, or part of them
pub appended-since : (l : Log) (old new : List Content) (held more : List Line) (piece records : List ℕ) → IsLogged l old held → l.end < limit.area_bytes
    → HasRecords lines_in records more → 1 ∷ piece ≡ records ++ 0 ∷ [] → Since old new (IsBehindImage l.end piece (read_bytes old)) → Since old new (StandsForOneOf held (held ++ more))
appended-since l old new held more piece records logged_ below has is_piece since =
    since_weaker old new (IsBehindImage l.end piece (read_bytes old)) (StandsForOneOf held (held ++ more)) since
    (λ image behind. ⊎_elim (λ same. inl (ap without_end same)) (λ longer. inr (ap without_end longer))
    (behind-image lines_in (read_bytes old) image held more l.end piece records logged_.stands (logged_.closed below) has is_piece behind))

-- they were written, and the log is at rest
pub appended-rests : (l after : Log) (old new : List Content) (held more : List Line) (piece records : List ℕ) → IsLogged l old held → l.end < limit.area_bytes
    → HasRecords lines_in records more → 1 ∷ piece ≡ records ++ 0 ∷ [] → IsQuiet new (opened_behind l.end piece (read_bytes old)) → after.dead ≡ false
    → after.count ≡ length (held ++ more) → after.end ≡ l.end + length records → after.reached ≡ record { first = 0; next = 0; lines = [] } → IsLogged after new (held ++ more)
appended-rests l after old new held more piece records logged_ below has is_piece quiet alive counted place start =
    let reads = read_bytes-quiet new (opened_behind l.end piece (read_bytes old)) quiet in
    let done = opened-log lines_in (read_bytes old) held more l.end piece records logged_.stands (logged_.closed below) has is_piece in
    let again : logged (read_bytes new) ≡ Ok (held ++ more, after.end) = ap logged reads ∙ done.0 ∙ ap (λ k. Ok (held ++ more, k)) (sym place) in
    record {
      alive = alive;
      quiet = subst (λ b. IsQuiet new b) (sym reads) quiet;
      stands = again;
      closed = λ under. subst (λ b. IsClosedAt b after.end) (sym reads) (subst (λ k. IsClosedAt (opened_behind l.end piece (read_bytes old)) k) (sym place) done.1);
      count = counted;
      reached = subst (λ r. IsReached r (read_bytes new) (held ++ more) after.end) (sym start) (reached-start (read_bytes new) (held ++ more) after.end again);
    }

-- the same, for lines that are said otherwise
pub appended-first : (l after : Log) (old new : List Content) (held more some : List Line) (piece records : List ℕ) → more ≡ some → IsLogged l old held → l.end < limit.area_bytes
    → HasRecords lines_in records more → 1 ∷ piece ≡ records ++ 0 ∷ [] → IsQuiet new (opened_behind l.end piece (read_bytes old)) → after.dead ≡ false
    → after.count ≡ length (held ++ more) → after.end ≡ l.end + length records → after.reached ≡ record { first = 0; next = 0; lines = [] } → IsLogged after new (held ++ some)
appended-first l after old new held more some piece records same logged_ below has is_piece quiet alive counted place start =
    subst (λ xs. IsLogged after new (held ++ xs)) same (appended-rests l after old new held more piece records logged_ below has is_piece quiet alive counted place start)

-- a log at rest of which another record was read last
pub rests-again : (l m : Log) (told : List Content) (lines : List Line) → IsLogged l told lines → m.dead ≡ l.dead → m.end ≡ l.end → m.count ≡ l.count
    → IsReached m.reached (read_bytes told) lines l.end → IsLogged m told lines
rests-again l m told lines rests alive end count reached = record {
  alive = alive ∙ rests.alive;
  quiet = rests.quiet;
  stands = rests.stands ∙ ap (λ k. Ok (lines, k)) (sym end);
  closed = λ below. subst (λ k. IsClosedAt (read_bytes told) k) (sym end) (rests.closed (omega (arith, below, end)));
  count = count ∙ rests.count;
  reached = subst (λ k. IsReached m.reached (read_bytes told) lines k) (sym end) reached;
}
