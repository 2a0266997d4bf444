-- All bytes as one value.
use Rattle.std.proofs.Common.{◌≡◌, ℕ, List, ◌++◌, length, drop, Result, Ok, Err, ap, ◌∙◌, arith, eq-eqb}
use Rattle.std.specs.Prelude.{if◌then◌else◌, ◌==◌, IfOk}
use Rattle.std.proofs.Math.Seq.{drop-length}
use Rattle.std.proofs.lemmas.List.{append-nil}
use Rattle.std.proofs.lemmas.Bool.{eqb-true}
use Rattle.ge_model_codec.specs.Reading.{ReadsAs, ReadsWhole, after_it}
use Rattle.ge_model_codec.specs.declared.TakeFault.{TakeFault}
use Rattle.ge_model_codec.specs.declared.TakeFault.TheVariants.{Short, Tag, Range, Memory}
use Rattle.ge_model_codec.specs.Code.{Code, whole}
use Rattle.ge_model_codec.specs.Canonical.{AreBytes, IsCanonical}
use Rattle.ge_codec.specs.Places.{after_it-ok, if_ok}

module _ {X : Type 0} (code : Code X) (bytes : List ℕ) where
  -- a fault of the value is the fault of all
  pub fault_of_all : (fault : TakeFault) → ReadsAs (Err fault) (code.read bytes 0) → ReadsAs (Err fault) (whole code bytes)
  fault_of_all Short h = ap (λ r. after_it r (λ x end. if end == length bytes then Ok (x, end) else Err (Range end))) h
  fault_of_all (Tag place) h = ap (λ r. after_it r (λ x end. if end == length bytes then Ok (x, end) else Err (Range end))) h
  fault_of_all (Range place) h = ap (λ r. after_it r (λ x end. if end == length bytes then Ok (x, end) else Err (Range end))) h
  fault_of_all Memory h = tt

  -- a value that ends where the bytes end is all of them
  pub whole_read : (x : X) (end : ℕ) → code.read bytes 0 ≡ Ok (x, end) → end ≡ length bytes → whole code bytes ≡ Ok (x, end)
  whole_read x end h last =
      ap (λ r. after_it r (λ x end. if end == length bytes then Ok (x, end) else Err (Range end))) h
      ∙ ap (λ b. if b then Ok (x, end) else Err (Range end)) (eq-eqb end (length bytes) last)

  -- bytes that are a value are the bytes of it
  pub one_spelling : IsCanonical code → AreBytes bytes → (r : Result X TakeFault) → ReadsWhole r (whole code bytes) → IfOk r (λ x. bytes ≡ code.write x)
  one_spelling canonical are (Ok x) h =
      let outer = after_it-ok (code.read bytes 0) (λ x end. if end == length bytes then Ok (x, end) else Err (Range end)) (x, h.0) h.1 in
      let p = outer.0 in
      let kept = if_ok (p.1 == length bytes) (p.0, p.1) (x, h.0) (Range p.1) outer.2 in
      let x_is : p.0 ≡ x = ap (λ q. q.0) kept.1 in
      let last : p.1 ≡ length bytes = eqb-true p.1 (length bytes) kept.0 in
      let stands = canonical.writes_back bytes 0 p.0 p.1 are (omega arith) outer.1 in
      stands.bytes_are ∙ ap (λ k. code.write p.0 ++ drop k bytes) last ∙ ap (λ r. code.write p.0 ++ r) (drop-length bytes)
      ∙ append-nil (code.write p.0) ∙ ap code.write x_is
  one_spelling canonical are (Err fault) h = tt
