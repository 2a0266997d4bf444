-- A daemon's bytes are read as it again.
use Rattle.std.proofs.Common.{◌≡◌, ℕ, ◌+◌, ◌<◌, true, List, [], ◌∷◌, ◌++◌, length, Option, Some, None, Ok, Err, refl, ap, ◌∙◌, sym, subst, arith}
use Rattle.std.specs.Prelude.{IsTrue, nat_eq, ◌&&◌, ◌==◌, if◌then◌else◌}
use Rattle.std.proofs.lemmas.Bool.{and_from, eq-eqb}
use Rattle.std.proofs.lemmas.List.{append-nil}
use Rattle.ge_collections.specs.Keyed.{text_eq}
use Rattle.ge_model_codec.specs.Reading.{Reading}
use Rattle.ge_model_codec.specs.declared.TakeFault.TheVariants.{Short}
use Rattle.ge_execd.specs.declared.daemon.Daemon.{Daemon}
use Rattle.ge_execd.specs.Bytes.{daemon_code}
use Rattle.ge_execd.specs.Laws.{daemon_canonical}
use Rattle.ge_host.specs.Standing.{daemon_bytes, of_host, daemon_in}

text_same : (a : List ℕ) → text_eq a a ≡ true
text_same [] = refl
text_same (x ∷ xs) = and_from (nat_eq x x) (text_eq xs xs) (eq-eqb x x refl) (text_same xs)

-- they are read as it where it is of the host
pub written_reads : (d : Daemon) (host bytes : List ℕ) → IsTrue (daemon_code.fits d) → bytes ≡ daemon_code.write d → d.host ≡ host → daemon_in host bytes ≡ Some d
unfolding daemon_in
written_reads d host bytes fits is named =
    let read = daemon_canonical.reads_back bytes 0 d [] fits (is ∙ sym (append-nil (daemon_code.write d))) in
    let end : 0 + length (daemon_code.write d) ≡ length bytes = omega (arith, ap length is) in
    let same : text_eq d.host host ≡ true = subst (λ h. text_eq d.host h ≡ true) named (text_same d.host) in
    let passes = and_from (0 + length (daemon_code.write d) == length bytes) (text_eq d.host host) (eq-eqb (0 + length (daemon_code.write d)) (length bytes) end) same in
    ap (of_host host (length bytes)) read ∙ ap (λ t. if t then Some d else None) passes

-- a reading that failed is none that succeeded
no_reading : {X : Type 0} (r : Reading X) (p : X × ℕ) → r ≡ Err Short → r ≡ Ok p → ⊥
no_reading r p failed read = cc

-- there are some
pub some_written : (d : Daemon) (bytes : List ℕ) → IsTrue (daemon_code.fits d) → bytes ≡ daemon_code.write d → 0 < length bytes
some_written d [] fits is =
    absurd (no_reading (daemon_code.read [] 0) _ refl (daemon_canonical.reads_back [] 0 d [] fits (is ∙ sym (append-nil (daemon_code.write d)))))
some_written d (b ∷ bytes) fits is = omega arith
