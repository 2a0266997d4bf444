-- What a look comes to, at each of its exits.
use Rattle.std.proofs.Common.{◌≡◌, ◌⊎◌, ℕ, List, [], ◌∷◌, Result, Ok, Err, refl, sym, subst, inl, inr, arith}
use Rattle.std.proofs.lemmas.Bool.{false≢true}
use Rattle.ge_outside.specs.Faults.{Rose}
use Rattle.ge_model_rows.specs.AccountRows.{Line}
use Rattle.ge_model_program.specs.Statuses.{IsOneStatusOf}
use Rattle.ge_model_log.specs.declared.Wrong.{Wrong}
use Rattle.ge_spool.specs.Moments.{IsQuiet, Since}
use Rattle.ge_acctlog.specs.Opens.{StandsAlike}
use Rattle.ge_gridacct.specs.Faults.{status_of, Blames}
use Rattle.ge_gridacct.specs.Looks.{Looks, LookAnswers, LookTells, IsNoFlushFault}
use Rattle.ge_gridacct.specs.Sights.{Sight, LogSays, IsFailure}
use Rattle.ge_gridacct.specs.declared.faults.Fault.{Fault}
use Rattle.ge_gridacct.specs.declared.faults.Fault.TheVariants as fault

module _ (text : List Line → List ℕ) (x y : Sight) (moments : (bytes : List ℕ) → IsQuiet x.told bytes → Since x.told y.told (StandsAlike bytes)) where
  pub looked_done : ((found : Result (List Line × ℕ) Wrong) → LogSays x.told found → LookAnswers (Ok tt) found text x.output y.output) → Looks 0 text x y
  looked_done answers = record {
    statuses = refl;
    answer = λ found says. inl (tells found (answers found says));
    whole = λ lines end says is. (answers (Ok (lines, end)) says).0;
    front = λ lines end says. (answers (Ok (lines, end)) says).1;
    unwritten = λ wrong says. (answers (Err wrong) says).1;
    moments = moments;
    written = λ is. absurd (omega (arith, is));
    disk = λ is. absurd (omega (arith, is));
  }
    where
      tells : (found : Result (List Line × ℕ) Wrong) → LookAnswers (Ok tt) found text x.output y.output → LookTells 0 found
      tells (Ok found) answer = refl
      tells (Err wrong) answer = absurd (false≢true answer.0)

  pub looked_not : (status : ℕ) (f : Fault) → status ≡ status_of f → ((found : Result (List Line × ℕ) Wrong) → LogSays x.told found → LookAnswers (Err f) found text x.output y.output)
      → IsNoFlushFault {T = Unit {0}} (Err f) → Blames {T = Unit {0}} (Err f) (Rose x.faults y.faults) (Rose x.writes y.writes) → Looks status text x y
  looked_not status f is answers no_flush blames = subst (λ s. Looks s text x y) (sym is) (record {
    statuses = one f no_flush;
    answer = λ found says. tells f found no_flush (answers found says);
    whole = λ lines end says zero_. absurd (not_done f zero_);
    front = λ lines end says. (answers (Ok (lines, end)) says).1;
    unwritten = λ wrong says. (answers (Err wrong) says).1;
    moments = moments;
    written = λ seven. write (Rose x.faults y.faults) (Rose x.writes y.writes) f blames seven;
    disk = λ eight. disk (Rose x.faults y.faults) (Rose x.writes y.writes) f blames eight;
  })
    where
      one : (f : Fault) → IsNoFlushFault {T = Unit {0}} (Err f) → IsOneStatusOf (0 ∷ 7 ∷ 8 ∷ 10 ∷ 11 ∷ []) (status_of f)
      one fault.Disk not_flush = refl
      one fault.Full not_flush = absurd not_flush
      one fault.Wrong not_flush = refl
      one fault.Other not_flush = absurd not_flush
      one fault.Write not_flush = refl
      one fault.Memory not_flush = refl

      tells : (f : Fault) (found : Result (List Line × ℕ) Wrong) → IsNoFlushFault {T = Unit {0}} (Err f) → LookAnswers (Err f) found text x.output y.output
          → LookTells (status_of f) found ⊎ IsFailure (status_of f)
      tells fault.Disk found not_flush answer = inr refl
      tells fault.Full found not_flush answer = absurd not_flush
      tells fault.Wrong (Ok found) not_flush answer = absurd answer.2
      tells fault.Wrong (Err wrong) not_flush answer = inl refl
      tells fault.Other found not_flush answer = absurd not_flush
      tells fault.Write found not_flush answer = inr refl
      tells fault.Memory found not_flush answer = inr refl

      not_done : (f : Fault) → status_of f ≡ 0 → ⊥
      not_done fault.Disk zero_ = omega (arith, zero_)
      not_done fault.Full zero_ = omega (arith, zero_)
      not_done fault.Wrong zero_ = omega (arith, zero_)
      not_done fault.Other zero_ = omega (arith, zero_)
      not_done fault.Write zero_ = omega (arith, zero_)
      not_done fault.Memory zero_ = omega (arith, zero_)

      write : (disks writes : Type 0) (f : Fault) → Blames {T = Unit {0}} (Err f) disks writes → status_of f ≡ 7 → writes
      write disks writes fault.Disk b seven = absurd (omega (arith, seven))
      write disks writes fault.Full b seven = absurd (omega (arith, seven))
      write disks writes fault.Wrong b seven = absurd (omega (arith, seven))
      write disks writes fault.Other b seven = absurd (omega (arith, seven))
      write disks writes fault.Write b seven = b
      write disks writes fault.Memory b seven = absurd (omega (arith, seven))

      disk : (disks writes : Type 0) (f : Fault) → Blames {T = Unit {0}} (Err f) disks writes → status_of f ≡ 8 → disks
      disk disks writes fault.Disk b eight = b
      disk disks writes fault.Full b eight = absurd (omega (arith, eight))
      disk disks writes fault.Wrong b eight = absurd (omega (arith, eight))
      disk disks writes fault.Other b eight = absurd (omega (arith, eight))
      disk disks writes fault.Write b eight = absurd (omega (arith, eight))
      disk disks writes fault.Memory b eight = absurd (omega (arith, eight))
