-- What a flush comes to, at each of its exits.
use Rattle.std.proofs.Common.{◌≡◌, ◌⊎◌, ℕ, ◌+◌, List, [], ◌++◌, length, take, drop, Result, Ok, Err, refl, ap, ◌∙◌, sym, subst, inl, inr, ⊎_elim, arith}
use Rattle.ge_outside.specs.Streams.{Gains, GainsPrefix}
use Rattle.ge_model_rows.specs.AccountRows.{Line}
use Rattle.ge_model_journal.specs.Disk.{Content, read_bytes}
use Rattle.ge_model_log.specs.Lines.{logged, stands_for, without_end}
use Rattle.ge_model_log.specs.declared.Wrong.{Wrong}
use Rattle.ge_spool.specs.Moments.{IsQuiet, Since, since_join, since_weaker, read_bytes-quiet}
use Rattle.ge_spool.specs.Opening.{Tells}
use Rattle.ge_acctlog.specs.Opens.{StandsAlike}
use Rattle.ge_gridacct.specs.Faults.{status_of}
use Rattle.ge_gridacct.specs.Flushes.{FlushTells, FlushAnswers, FlushesLines, flushed_line}
use Rattle.ge_gridacct.specs.Fronts.{IsFront, StandsBehind, StandsForFront, KeepsFront}
use Rattle.ge_gridacct.specs.Sights.{Sight, LogSays, IsFailure}
use Rattle.ge_gridacct.specs.declared.faults.Fault.{Fault}
use Rattle.ge_gridacct.specs.declared.faults.Fault.TheVariants as fault
use Rattle.ge_gridacct.proofs.Fronts.{front_behind}

-- a log that was opened and compared left what it stood for
pub kept_alike : (old new : List Content) (bytes : List ℕ) (lines : List Line) → Since old new (StandsAlike bytes) → Since old new (KeepsFront (stands_for bytes) lines)
kept_alike old new bytes lines since = since_weaker old new (StandsAlike bytes) (KeepsFront (stands_for bytes) lines) since (λ image same. inl same)

-- and appending to it a longer front
pub kept_front : (old mid new : List Content) (bytes : List ℕ) (lines held missing : List Line) (end : ℕ) → IsQuiet old bytes → Since old mid (StandsAlike bytes)
    → logged (read_bytes old) ≡ Ok (held, end) → IsFront held lines → missing ≡ drop (length held) lines → Since mid new (StandsBehind held missing)
    → Since old new (KeepsFront (stands_for bytes) lines)
kept_front old mid new bytes lines held missing end quiet opened found front is appended =
    let stood : stands_for bytes ≡ Ok held = ap stands_for (sym (read_bytes-quiet old bytes quiet)) ∙ ap without_end found in
    since_join old mid new (KeepsFront (stands_for bytes) lines) (kept_alike old mid bytes lines opened)
    (since_weaker mid new (StandsBehind held missing) (KeepsFront (stands_for bytes) lines) appended
    (λ image h. inr (
      held,
      stood,
      front,
      (
        length held + h.0,
        omega arith,
        h.1 ∙ ap Ok (ap (λ ms. held ++ take h.0 ms) is ∙ front_behind held lines h.0 front),
      ),
    )))

same_held : (one other : List Line) (stood : Result (List Line) Wrong) → stood ≡ Ok one → stood ≡ Ok other → one ≡ other
same_held one other stood first second = ap held_of (sym first ∙ second)
  where
    held_of : Result (List Line) Wrong → List Line
    held_of (Ok held) = held
    held_of (Err wrong) = []

-- where a front was held
fronts_since : (old new : List Content) (bytes : List ℕ) (lines held : List Line) → Since old new (KeepsFront (stands_for bytes) lines) → stands_for bytes ≡ Ok held
    → IsFront held lines → Since old new (StandsForFront (length held) lines)
fronts_since old new bytes lines held since stood front =
    since_weaker old new (KeepsFront (stands_for bytes) lines) (StandsForFront (length held) lines) since
    (λ image h. ⊎_elim
    (λ same. (length held, omega arith, same ∙ stood ∙ ap Ok (sym front)))
    (λ longer. subst (λ (xs : List Line). StandsForFront (length xs) lines image) (same_held longer.0 held (stands_for bytes) longer.1 stood) longer.3) h)

-- and where none was
others_since : (old new : List Content) (bytes : List ℕ) (lines : List Line) → Since old new (KeepsFront (stands_for bytes) lines)
    → ((held : List Line) → stands_for bytes ≡ Ok held → IsFront held lines → ⊥) → Since old new (StandsAlike bytes)
others_since old new bytes lines since none =
    since_weaker old new (KeepsFront (stands_for bytes) lines) (StandsAlike bytes) since
    (λ image h. ⊎_elim (λ same. same) (λ longer. absurd (none longer.0 longer.1 longer.2)) h)

module _ (lines : List Line) (x y : Sight) (since : (bytes : List ℕ) → IsQuiet x.told bytes → Since x.told y.told (KeepsFront (stands_for bytes) lines)) where
  -- all is appended, and the line is written or not
  pub flushed_done : (status appended : ℕ) → ((found : Result (List Line × ℕ) Wrong) → LogSays x.told found → FlushAnswers (Ok appended) found lines)
      → (Tells x.told → IsQuiet y.told (read_bytes y.told) × (stands_for (read_bytes y.told) ≡ Ok lines))
      → (status ≡ 0) ⊎ (status ≡ 7) ⊎ (status ≡ 10) → (status ≡ 0 → Gains x.output y.output (flushed_line appended (length lines)))
      → (status ≡ 7 → GainsPrefix x.output y.output (flushed_line appended (length lines))) → FlushesLines status lines x y
  flushed_done status appended answers all ends whole cut = record {
    answer = λ found says. tells found (answers found says) ends;
    whole = λ held end says is. subst (λ n. Gains x.output y.output (flushed_line n (length lines))) (answers (Ok (held, end)) says).2 (whole is);
    cut = λ held end says is. subst (λ n. GainsPrefix x.output y.output (flushed_line n (length lines))) (answers (Ok (held, end)) says).2 (cut is);
    fronts = λ bytes held quiet stood front. fronts_since x.told y.told bytes lines held (since bytes quiet) stood front;
    others = λ bytes quiet none. others_since x.told y.told bytes lines (since bytes quiet) none;
    all = λ is told. all told;
  }
    where
      tells : (found : Result (List Line × ℕ) Wrong) → FlushAnswers (Ok appended) found lines → (status ≡ 0) ⊎ (status ≡ 7) ⊎ (status ≡ 10)
          → FlushTells status found lines ⊎ IsFailure status
      tells (Ok found) answer (inl zero_) = inl (inl (answer.0, answer.1, zero_))
      tells (Err wrong) answer (inl zero_) = absurd answer
      tells found answer (inr (inl seven)) = inr (subst IsFailure (sym seven) refl)
      tells found answer (inr (inr ten)) = inr (subst IsFailure (sym ten) refl)

  -- it ended early
  pub flushed_not : (status : ℕ) (f : Fault) → status ≡ status_of f → ((found : Result (List Line × ℕ) Wrong) → LogSays x.told found → FlushAnswers (Err f) found lines)
      → FlushesLines status lines x y
  flushed_not status f is answers = record {
    answer = λ found says. subst (λ s. FlushTells s found lines ⊎ IsFailure s) (sym is) (tells f found (answers found says));
    whole = λ held end says zero_. absurd (not_done f (sym is ∙ zero_));
    cut = λ held end says seven. absurd (not_cut f (Ok (held, end)) (answers (Ok (held, end)) says) (sym is ∙ seven));
    fronts = λ bytes held quiet stood front. fronts_since x.told y.told bytes lines held (since bytes quiet) stood front;
    others = λ bytes quiet none. others_since x.told y.told bytes lines (since bytes quiet) none;
    all = λ zero_ told. absurd (not_done f (sym is ∙ zero_));
  }
    where
      tells : (f : Fault) (found : Result (List Line × ℕ) Wrong) → FlushAnswers (Err f) found lines → FlushTells (status_of f) found lines ⊎ IsFailure (status_of f)
      tells fault.Disk found answer = inr refl
      tells fault.Full (Ok found) answer = inl (inr (inl (answer.0, answer.1, refl)))
      tells fault.Full (Err wrong) answer = absurd answer
      tells fault.Wrong (Ok found) answer = absurd answer
      tells fault.Wrong (Err wrong) answer = inl refl
      tells fault.Other (Ok found) answer = inl (inr (inr (answer, refl)))
      tells fault.Other (Err wrong) answer = absurd answer
      tells fault.Write found answer = absurd answer
      tells fault.Memory found answer = inr refl

      not_done : (f : Fault) → status_of f ≡ 0 → ⊥
      not_done fault.Disk zero_ = omega (arith, zero_)
      not_done fault.Full zero_ = omega (arith, zero_)
      not_done fault.Wrong zero_ = omega (arith, zero_)
      not_done fault.Other zero_ = omega (arith, zero_)
      not_done fault.Write zero_ = omega (arith, zero_)
      not_done fault.Memory zero_ = omega (arith, zero_)

      not_cut : (f : Fault) (found : Result (List Line × ℕ) Wrong) → FlushAnswers (Err f) found lines → status_of f ≡ 7 → ⊥
      not_cut fault.Disk found answer seven = omega (arith, seven)
      not_cut fault.Full found answer seven = omega (arith, seven)
      not_cut fault.Wrong found answer seven = omega (arith, seven)
      not_cut fault.Other found answer seven = omega (arith, seven)
      not_cut fault.Write found answer seven = answer
      not_cut fault.Memory found answer seven = omega (arith, seven)
