-- The numbers of the reservations in which a task runs are gathered job by job.
use Rattle.std.proofs.Common.{◌≡◌, ℕ, ◌==◌, ◌&&◌, ◌||◌, Bool, true, false, cond, not, List, ◌∷◌, refl, sym, ap, ◌∙◌}
use Rattle.std.specs.BTreeMap.{is_at}
use Rattle.std.specs.BTreeSet.{BTreeSet, contains}
use Rattle.std.specs.Cmp.{unsigned_ties}
use Rattle.std.specs.List.{list_any}
use Rattle.std.specs.Ordering.{nat_cmp}
use Rattle.ge_model_rows.specs.Pieces.{is_empty}
use Rattle.ge_model_rows.specs.JobRows.{Job}
use Rattle.ge_model_place.specs.Windows.{runs_in_advance}

both : (t r known : Bool) → r ≡ true → cond t true known ≡ ((t && r) || known)
both true r known e = rw e refl
both false r known e = refl

pub noted : (old new : BTreeSet ℕ) (key : ℕ) (job : Job) → not (is_empty job.running) ≡ true → ((q : ℕ) → contains nat_cmp new q ≡ cond (is_at (nat_cmp job.advance) q) true (contains nat_cmp old q))
    → (number : ℕ) → contains nat_cmp new number ≡ (runs_in_advance number (key, job) || contains nat_cmp old number)
noted old new key job some changes number =
    changes number ∙ ap (λ t. cond t true (contains nat_cmp old number)) (sym (unsigned_ties job.advance number)) ∙ both (job.advance == number) (not (is_empty job.running)) (contains nat_cmp old number) some

pub not_noted : (old : BTreeSet ℕ) (key : ℕ) (job : Job) → not (is_empty job.running) ≡ false → (number : ℕ) → contains nat_cmp old number ≡ (runs_in_advance number (key, job) || contains nat_cmp old number)
not_noted old key job none number = neither (job.advance == number) (not (is_empty job.running)) (contains nat_cmp old number) none
  where
    neither : (t r known : Bool) → r ≡ false → known ≡ ((t && r) || known)
    neither true r known e = rw e refl
    neither false r known e = refl

turn : (noted r rest : Bool) → ((r || noted) || rest) ≡ (noted || (r || rest))
turn true true rest = refl
turn true false rest = refl
turn false true rest = refl
turn false false rest = refl

pub one_more : (old new : BTreeSet ℕ) (key : ℕ) (job : Job) (behind all : List (ℕ × Job)) → ((number : ℕ) → contains nat_cmp new number ≡ (runs_in_advance number (key, job) || contains nat_cmp old number))
    → ((number : ℕ) → (contains nat_cmp old number || list_any (runs_in_advance number) ((key, job) ∷ behind)) ≡ list_any (runs_in_advance number) all)
    → (number : ℕ) → (contains nat_cmp new number || list_any (runs_in_advance number) behind) ≡ list_any (runs_in_advance number) all
one_more old new key job behind all now before number =
    ap (λ t. t || list_any (runs_in_advance number) behind) (now number) ∙ turn (contains nat_cmp old number) (runs_in_advance number (key, job)) (list_any (runs_in_advance number) behind) ∙ before number
