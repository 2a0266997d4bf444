-- How many records of lines are appended.
use Rattle.std.proofs.Common.{◌≡◌, ℕ, ◌+◌, ◌-◌, ◌*◌, ◌<◌, ◌≤◌, List, ◌++◌, length, take, drop, refl, ap, ◌∙◌, sym, subst, arith, append_assoc, length-append, inl, inr, ◌⊎◌, ⊎_elim, Bool, false, Ok, Err}
use Rattle.std.proofs.lemmas.Bool.{cases_lt, false≢true}
use Rattle.std.proofs.lemmas.List.{length-drop, drop-drop, drop_min, take_min, take_all}
use Rattle.std.proofs.lemmas.Grind.{flat_map-append}
use Rattle.std.proofs.Math.Seq.{take-add}
use Rattle.ge_limits.specs.Limits as limit
use Rattle.ge_model_rows.specs.AccountRows.{Line}
use Rattle.ge_model_journal.specs.Disk.{Content}
use Rattle.ge_model_log.specs.Lines.{line_bytes, bytes_of_lines, StandsForOneOf}
use Rattle.ge_spool.specs.Moments.{Since, since_join, since_weaker}
use Rattle.ge_acctlog.specs.Appends.{Refuses}
use Rattle.ge_acctlog.specs.Logs.{IsLogged}
use Rattle.ge_acctlog.specs.Records.{end_behind, log_end, AreInRecords}
use Rattle.ge_acctlog.specs.declared.faults.LogStop.{LogStop}
use Rattle.ge_acctlog.specs.declared.faults.LogStop.TheVariants as stop
use Rattle.ge_acctlog.specs.declared.log.Log.{Log}
use Rattle.ge_gridacct.specs.Fronts.{record_lines, Fits, IsFull, StandsBehind}
use Rattle.ge_gridacct.specs.Records.{AppendsAll}

-- so many records of lines are appended, and these are left
pub record HasAppended (k start : ℕ) (lines rest : List Line) (end : ℕ) : Type 0 where
  pub left : rest ≡ drop (k * record_lines) lines
  pub place : end ≡ end_behind record_lines start lines k
  pub fits : (j : ℕ) → j < k → log_end record_lines start lines (j + 1) ≤ limit.area_bytes

pub appended_none : (start : ℕ) (lines : List Line) → HasAppended 0 start lines lines start
appended_none start lines = record { left = refl; place = omega arith; fits = λ j below. absurd (omega (arith, below)) }

-- the first records, and those behind them
take_records : (k m : ℕ) (lines : List Line) → take ((k + m) * record_lines) lines ≡ take (k * record_lines) lines ++ take (m * record_lines) (drop (k * record_lines) lines)
take_records k m lines = ap (λ n. take n lines) (omega arith) ∙ take-add (k * record_lines) (m * record_lines) lines

joined_end : (start k m : ℕ) (lines : List Line) → end_behind record_lines (end_behind record_lines start lines k) (drop (k * record_lines) lines) m
    ≡ end_behind record_lines start lines (k + m)
joined_end start k m lines =
    let bytes : length (bytes_of_lines (take ((k + m) * record_lines) lines))
    ≡ length (bytes_of_lines (take (k * record_lines) lines)) + length (bytes_of_lines (take (m * record_lines) (drop (k * record_lines) lines))) =
    ap (λ xs. length (bytes_of_lines xs)) (take_records k m lines)
    ∙ ap length (flat_map-append line_bytes (take (k * record_lines) lines) (take (m * record_lines) (drop (k * record_lines) lines)))
    ∙ length-append (bytes_of_lines (take (k * record_lines) lines)) (bytes_of_lines (take (m * record_lines) (drop (k * record_lines) lines))) in
    omega (arith, bytes)

-- the end behind records of what is left
left_end : (k m start : ℕ) (lines rest : List Line) (end : ℕ) → HasAppended k start lines rest end → end_behind record_lines end rest m ≡ end_behind record_lines start lines (k + m)
left_end k m start lines rest end a =
    ap (λ place. end_behind record_lines place rest m) a.place
    ∙ ap (λ xs. end_behind record_lines (end_behind record_lines start lines k) xs m) a.left
    ∙ joined_end start k m lines

pub appended_more : (k m start : ℕ) (lines rest others : List Line) (end n new : ℕ) → HasAppended k start lines rest end → AreInRecords record_lines end rest n m
    → others ≡ drop n rest → new ≡ end_behind record_lines end rest m → HasAppended (k + m) start lines others new
appended_more k m start lines rest others end n new a are_in is_others place = record {
  left = is_others ∙ ap (λ i. drop i rest) are_in.count ∙ drop_min (m * record_lines) rest ∙ ap (λ xs. drop (m * record_lines) xs) a.left
      ∙ drop-drop (m * record_lines) (k * record_lines) lines ∙ ap (λ i. drop i lines) (omega arith);
  place = place ∙ left_end k m start lines rest end a;
  fits = λ j below. ⊎_elim (λ before. a.fits j before) (λ behind. by j below behind) (cases_lt j k);
}
  where
    by : (j : ℕ) → j < k + m → k ≤ j → log_end record_lines start lines (j + 1) ≤ limit.area_bytes
    by j below behind =
        let place = left_end k (j - k + 1) start lines rest end a in
        let same : k + (j - k + 1) ≡ j + 1 = omega (arith, behind) in
        omega (arith, are_in.fits (j - k) (omega (arith, below, behind)), place, ap (λ i. end_behind record_lines start lines i) same)

-- all are
pub appended_all : (k start : ℕ) (lines rest : List Line) (end : ℕ) → HasAppended k start lines rest end → length rest ≡ 0 → Fits start lines × (length lines ≤ k * record_lines)
appended_all k start lines rest end a none =
    let past : length lines ≤ k * record_lines = omega (arith, none, ap length a.left, length-drop (k * record_lines) lines) in
    (λ j within. a.fits j (omega (arith, within, past)), past)

-- the next doesn't fit
appended_full : (k start : ℕ) (lines rest : List Line) (end : ℕ) → HasAppended k start lines rest end → 0 < length rest
    → limit.area_bytes < log_end record_lines end rest 1 → IsFull start lines
appended_full k start lines rest end a some past = record {
  k = k;
  within = omega (arith, some, ap length a.left, length-drop (k * record_lines) lines);
  past = omega (arith, past, left_end k 1 start lines rest end a);
}

-- why appending ends there
pub appended_stop : (why : LogStop) (k start : ℕ) (lines rest : List Line) (end : ℕ) (dead : Bool) (reason total : Type 0) → HasAppended k start lines rest end → 0 < length rest
    → dead ≡ false → Refuses why dead (log_end record_lines end rest 1) reason → (reason → total) → AppendsAll (Err why) start lines total
appended_stop stop.Disk k start lines rest end dead reason total a some alive refused longer = longer refused.2
appended_stop (stop.Full place) k start lines rest end dead reason total a some alive refused longer = appended_full k start lines rest end a some refused.1
appended_stop stop.Dead k start lines rest end dead reason total a some alive refused longer = absurd (false≢true (sym alive ∙ refused))
appended_stop stop.Memory k start lines rest end dead reason total a some alive refused longer = tt

-- a stop may have left so many records more
records_behind : (held lines rest : List Line) (k m : ℕ) → rest ≡ drop (k * record_lines) lines
    → (held ++ take (k * record_lines) lines) ++ take (m * record_lines) rest ≡ held ++ take ((k + m) * record_lines) lines
records_behind held lines rest k m left =
    append_assoc held (take (k * record_lines) lines) (take (m * record_lines) rest)
    ∙ ap (λ xs. held ++ xs) (ap (λ r. take (k * record_lines) lines ++ take (m * record_lines) r) left ∙ sym (take_records k m lines))

pub records_since : (start mid new : List Content) (held lines rest : List Line) (k m : ℕ) → Since start mid (StandsBehind held lines)
    → Since mid new (StandsForOneOf (held ++ take (k * record_lines) lines) ((held ++ take (k * record_lines) lines) ++ take (m * record_lines) rest))
    → rest ≡ drop (k * record_lines) lines → Since start new (StandsBehind held lines)
records_since start mid new held lines rest k m before one left =
    since_join start mid new (StandsBehind held lines) before
    (since_weaker mid new (StandsForOneOf (held ++ take (k * record_lines) lines) ((held ++ take (k * record_lines) lines) ++ take (m * record_lines) rest)) (StandsBehind held lines) one
    (λ image h. ⊎_elim (λ x. (k * record_lines, x)) (λ x. ((k + m) * record_lines, x ∙ ap Ok (records_behind held lines rest k m left))) h))

-- and the log is at rest with them
pub records_rest : (l : Log) (told : List Content) (held lines rest : List Line) (k m end n : ℕ) → IsLogged l told ((held ++ take (k * record_lines) lines) ++ take n rest)
    → AreInRecords record_lines end rest n m → rest ≡ drop (k * record_lines) lines → IsLogged l told (held ++ take ((k + m) * record_lines) lines)
records_rest l told held lines rest k m end n rests are_in left =
    subst (λ all. IsLogged l told all)
    (ap (λ i. (held ++ take (k * record_lines) lines) ++ take i rest) are_in.count
    ∙ ap (λ xs. (held ++ take (k * record_lines) lines) ++ xs) (take_min (m * record_lines) rest)
    ∙ records_behind held lines rest k m left) rests

pub records_done : (l : Log) (told : List Content) (held lines : List Line) (k : ℕ) → IsLogged l told (held ++ take (k * record_lines) lines)
    → length lines ≤ k * record_lines → IsLogged l told (held ++ lines)
records_done l told held lines k rests past = subst (λ xs. IsLogged l told (held ++ xs)) (take_all (k * record_lines) lines past) rests
