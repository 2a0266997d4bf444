-- How far the records of a log have been read from the front.
use Rattle.std.specs.Prelude.{◌≡◌, ℕ, zero, suc, ◌+◌, ◌≤◌, true, false, List, [], ◌∷◌, ◌++◌, length, take, drop, Option, Some, None, Result, Ok, Err, refl}
use Rattle.std.proofs.Common.{arith, ◌∙◌, sym, length-append}
use Rattle.ge_model_rows.specs.AccountRows.{Line}
use Rattle.ge_model_journal.specs.Area.{number4, is_bad_length}
use Rattle.ge_model_log.specs.declared.Wrong.{Wrong}
use Rattle.ge_model_log.specs.declared.Wrong.TheVariants.{Frame, Bad}
use Rattle.ge_model_log.specs.Records.{ends_list, records_behind}
use Rattle.ge_model_log.specs.Lines.{lines_in, logged}
use Rattle.ge_acctlog.specs.Bodies.{HasCount}

module _ {X : Type 0} (read_body : List ℕ → Option (List X)) where
  -- the items of the records before a place are read, and what the rest makes of them is all
  pub record HasWalked (rest : List ℕ) (place : ℕ) (items : List X) (all : Result (List X × ℕ) Wrong) : Type 0 where
    pub fuel : ℕ
    pub enough : length rest ≤ fuel
    pub left : records_behind read_body fuel place rest items ≡ all

  none-left : (fuel place : ℕ) (rest : List ℕ) (items : List X) → length rest ≡ 0 → records_behind read_body fuel place rest items ≡ Ok (items, place)
  unfolding records_behind
  none-left zero place [] items none = refl
  none-left (suc fuel) place [] items none = refl
  none-left fuel place (gate ∷ rest) items none = absurd (omega (arith, none))

  pub walked-all : (rest : List ℕ) (place : ℕ) (items : List X) (all : Result (List X × ℕ) Wrong) → HasWalked rest place items all → length rest ≡ 0 → all ≡ Ok (items, place)
  walked-all rest place items all walked none = sym walked.left ∙ none-left walked.fuel place rest items none

  step-end : (fuel place gate : ℕ) (after : List ℕ) (items : List X) → suc (length after) ≤ fuel → ends_list gate after ≡ true
      → records_behind read_body fuel place (gate ∷ after) items ≡ Ok (items, place)
  unfolding records_behind
  step-end zero place gate after items enough ended = absurd (omega (arith, enough))
  step-end (suc fuel) place gate after items enough ended = rw ended refl

  pub walked-end : (gate place : ℕ) (after : List ℕ) (items : List X) (all : Result (List X × ℕ) Wrong) → HasWalked (gate ∷ after) place items all
      → ends_list gate after ≡ true → all ≡ Ok (items, place)
  walked-end gate place after items all walked ended = sym walked.left ∙ step-end walked.fuel place gate after items walked.enough ended

  step-frame : (fuel place gate : ℕ) (after : List ℕ) (items : List X) → suc (length after) ≤ fuel → ends_list gate after ≡ false → is_bad_length after ≡ true
      → records_behind read_body fuel place (gate ∷ after) items ≡ Err (Frame (place + 1))
  unfolding records_behind
  step-frame zero place gate after items enough on bad = absurd (omega (arith, enough))
  step-frame (suc fuel) place gate after items enough on bad = rw (on, bad) refl

  pub walked-frame : (gate place : ℕ) (after : List ℕ) (items : List X) (all : Result (List X × ℕ) Wrong) → HasWalked (gate ∷ after) place items all
      → ends_list gate after ≡ false → is_bad_length after ≡ true → all ≡ Err (Frame (place + 1))
  walked-frame gate place after items all walked on bad = sym walked.left ∙ step-frame walked.fuel place gate after items walked.enough on bad

  step-bad : (fuel place gate size : ℕ) (after body : List ℕ) (items : List X) → suc (length after) ≤ fuel → ends_list gate after ≡ false → is_bad_length after ≡ false
      → number4 after 0 ≡ size → take size (drop 4 after) ≡ body → read_body body ≡ None → records_behind read_body fuel place (gate ∷ after) items ≡ Err (Bad (place + 5))
  unfolding records_behind
  step-bad zero place gate size after body items enough on good number front read = absurd (omega (arith, enough))
  step-bad (suc fuel) place gate size after body items enough on good number front read = rw (on, good, number, front, read) refl

  pub walked-bad : (gate place size : ℕ) (after body : List ℕ) (items : List X) (all : Result (List X × ℕ) Wrong) → HasWalked (gate ∷ after) place items all
      → ends_list gate after ≡ false → is_bad_length after ≡ false → number4 after 0 ≡ size → take size (drop 4 after) ≡ body → read_body body ≡ None → all ≡ Err (Bad (place + 5))
  walked-bad gate place size after body items all walked on good number front read =
      sym walked.left ∙ step-bad walked.fuel place gate size after body items walked.enough on good number front read

  step-next : (fuel place gate size : ℕ) (after body others : List ℕ) (items more : List X) → ends_list gate after ≡ false → is_bad_length after ≡ false
      → number4 after 0 ≡ size → take size (drop 4 after) ≡ body → drop (4 + size) after ≡ others → read_body body ≡ Some more
      → records_behind read_body (suc fuel) place (gate ∷ after) items ≡ records_behind read_body fuel (place + 5 + size) others (items ++ more)
  unfolding records_behind
  step-next fuel place gate size after body others items more on good number front behind read = rw (on, good, number, front, behind, read) refl

  next-from : (fuel place gate size : ℕ) (after body others : List ℕ) (items more : List X) (all : Result (List X × ℕ) Wrong) → suc (length after) ≤ fuel
      → ends_list gate after ≡ false → is_bad_length after ≡ false → number4 after 0 ≡ size → take size (drop 4 after) ≡ body → drop (4 + size) after ≡ others
      → length others ≤ length after → read_body body ≡ Some more → records_behind read_body fuel place (gate ∷ after) items ≡ all → HasWalked others (place + 5 + size) (items ++ more) all
  next-from zero place gate size after body others items more all enough on good number front behind less read left = absurd (omega (arith, enough))
  next-from (suc fuel) place gate size after body others items more all enough on good number front behind less read left = record {
    fuel = fuel;
    enough = omega (arith, enough, less);
    left = sym (step-next fuel place gate size after body others items more on good number front behind read) ∙ left;
  }

  pub walked-next : (gate place size : ℕ) (after body others : List ℕ) (items more : List X) (all : Result (List X × ℕ) Wrong) → HasWalked (gate ∷ after) place items all
      → ends_list gate after ≡ false → is_bad_length after ≡ false → number4 after 0 ≡ size → take size (drop 4 after) ≡ body → drop (4 + size) after ≡ others
      → length others ≤ length after → read_body body ≡ Some more → HasWalked others (place + 5 + size) (items ++ more) all
  walked-next gate place size after body others items more all walked on good number front behind less read =
      next-from walked.fuel place gate size after body others items more all walked.enough on good number front behind less read walked.left

-- the lines before a place are counted
pub record HasCounted (bytes rest : List ℕ) (place count : ℕ) : Type 0 where
  pub lines : List Line
  pub walked : HasWalked lines_in rest place lines (logged bytes)
  pub counted : count ≡ length lines
  pub few : count ≤ place
  pub places : place + length rest ≡ length bytes

pub counted-none : (bytes : List ℕ) → HasCounted bytes bytes 0 0
counted-none bytes = record {
  lines = [];
  walked = record { fuel = length bytes; enough = omega arith; left = refl };
  counted = refl;
  few = omega arith;
  places = omega arith;
}

pub counted-next : (bytes : List ℕ) (gate place size count number : ℕ) (after body others : List ℕ) (more : List Line) → HasCounted bytes (gate ∷ after) place count
    → ends_list gate after ≡ false → is_bad_length after ≡ false → number4 after 0 ≡ size → take size (drop 4 after) ≡ body → drop (4 + size) after ≡ others
    → length others + size + 4 ≡ length after → lines_in body ≡ Some more → number ≡ length more → number ≤ size → HasCounted bytes others (place + 5 + size) (count + number)
counted-next bytes gate place size count number after body others more so_far on good field front behind sizes read is few = record {
  lines = so_far.lines ++ more;
  walked = walked-next lines_in gate place size after body others so_far.lines more (logged bytes) so_far.walked on good field front behind (omega (arith, sizes)) read;
  counted = omega (arith, so_far.counted, is, length-append so_far.lines more);
  few = omega (arith, so_far.few, few);
  places = omega (arith, so_far.places, sizes);
}

-- no lines could be counted
pub no-count : (count : Option ℕ) (want : Option (List Line)) (size : ℕ) → ((n : ℕ) → count ≡ Some n → ⊥) → HasCount count want size → want ≡ None
no-count None want size none h = h
no-count (Some n) want size none h = absurd (none n refl)
