-- What areas stand for after a batch was kept.
use Rattle.std.proofs.Common.{◌≡◌, ℕ, ◌<◌, Bool, true, false, List, [], ◌∷◌, ◌++◌, length, Ok, Err, refl, ap, ◌∙◌, sym, arith, fold, flat_map, length-append}
use Rattle.std.specs.Prelude.{IsTrue, if◌then◌else◌, ◌==◌}
use Rattle.std.proofs.lemmas.List.{append-nil}
use Rattle.std.proofs.lemmas.List.Concat.{flat_map-cons}
use Rattle.byteorder.specs.Endian.{big_bytes}
use Rattle.byteorder.specs.Numbers.{length-bytes_high_first}
use Rattle.ge_model_rows.specs.ClusterRows.{Cluster, opening_cluster}
use Rattle.ge_model_rows.specs.EntryRows.{Entry, Change}
use Rattle.ge_model_codec.specs.Canonical.{IsCanonical}
use Rattle.ge_model_codec.specs.Code.{Code}
use Rattle.ge_model_codec.specs.Cluster.{cluster_code}
use Rattle.ge_model_codec.specs.Entries.{entry_code, entry_code_1, entry_code_with, change_code, change_code_1}
use Rattle.ge_model_codec.specs.Reading.{Reading}
use Rattle.ge_model_codec.specs.declared.TakeFault.TheVariants.{Short}
use Rattle.ge_codec.specs.EntryLaws.{entry_canonical, entry_canonical_1}
use Rattle.ge_codec.specs.ClusterLaws.{cluster_canonical}
use Rattle.ge_model_journal.specs.Journal.{State, meaning, with_record, compacted}
use Rattle.ge_model_jobs.specs.Applying.{after_entry}
use Rattle.ge_model_program.specs.Reading.{after_record, in_snapshot, held_in}
use Rattle.ge_model_program.specs.StandsFor.{snapshot_code, body_code, entry_bytes, cluster_bytes, entry_fits, cluster_fits, held, stands_for}
use Rattle.ge_model_program.specs.declared.Wrong.TheVariants.{Frame, Bad}
use Rattle.ge_keeping.proofs.Standing as keeping
use Rattle.ge_keeping.proofs.Standing.{held-more}
use Rattle.ge_master.specs.Storing.{stored}
use Rattle.ge_master.specs.Staging.{AreFit}
use Rattle.ge_master.proofs.ReadAgain.{record_applies, held_in-compacted}

-- what a state holds is what areas with that meaning stand for
pub stands-for : (a b : List ℕ) (s : State) (c : Cluster) → meaning a b ≡ Ok s → held s ≡ Ok c → stands_for a b ≡ Ok c
stands-for a b s c is holds =
    keeping.stands-for Frame Bad held a b s c is holds

-- what begins with something has something
some_front : (xs ys : List ℕ) → 0 < length xs → 0 < length (xs ++ ys)
some_front xs ys some = omega (arith, length-append xs ys)

-- an entry has bytes, in either format
some_written : (change : Code Change) (e : Entry) → 0 < length ((entry_code_with change).write e)
some_written change e = some_front (big_bytes 8 e.moment) (change.write e.change) (omega (arith, length-bytes_high_first 8 e.moment))

pub some_entry : (e : Entry) → 0 < length (entry_bytes e)
unfolding entry_bytes
some_entry e = some_written change_code e

some_of : (first : Bool) (e : Entry) → 0 < length ((if first then entry_code_1 else entry_code).write e)
some_of true e = some_written change_code_1 e
some_of false e = some_written change_code e

pub some_body : (format : ℕ) (e : Entry) → 0 < length ((body_code format).write e)
some_body format e = some_of (format == 1) e

canonical_of : (first : Bool) → IsCanonical (if first then entry_code_1 else entry_code)
canonical_of true = entry_canonical_1
canonical_of false = entry_canonical

pub body_canonical : (format : ℕ) → IsCanonical (body_code format)
body_canonical format = canonical_of (format == 1)

-- a reading that failed is none that succeeded
no_reading : {X : Type 0} (r : Reading X) (p : X × ℕ) → r ≡ Err Short → r ≡ Ok p → ⊥
no_reading r p failed read = cc

some_bytes : (c : Cluster) (bytes : List ℕ) → IsTrue (cluster_code.fits c) → bytes ≡ cluster_code.write c → 0 < length bytes
some_bytes c [] fits is =
    absurd (no_reading (cluster_code.read [] 0) _ refl (cluster_canonical.reads_back [] 0 c [] fits (is ∙ sym (append-nil (cluster_code.write c)))))
some_bytes c (b ∷ bytes) fits is = omega arith

some_cluster : (c : Cluster) → IsTrue (cluster_fits c) → 0 < length (cluster_bytes c)
unfolding cluster_bytes cluster_fits
some_cluster c fits = some_bytes c (cluster_code.write c) fits refl

-- a state of the format that is written, read by its codes
held_written : (s : State) → s.format ≡ 2 → held s ≡ held_in cluster_code entry_code after_entry opening_cluster s
unfolding held
held_written s is = ap (λ format. held_in (snapshot_code format) (body_code format) after_entry opening_cluster s) is

-- one record more
holds-record : (s : State) (body : List ℕ) (c : Cluster) (e : Entry) (es : List Entry) → s.format ≡ 2 → held s ≡ Ok c → body ≡ flat_map entry_bytes (e ∷ es)
    → AreFit (e ∷ es) → held (with_record s body) ≡ Ok (fold after_entry c (e ∷ es))
unfolding entry_bytes entry_fits
holds-record s body c e es format holds is fits =
    held_written (with_record s body) format
    ∙ held-more (in_snapshot cluster_code entry_code after_entry opening_cluster) (after_record cluster_code entry_code after_entry opening_cluster)
    s body c (fold after_entry c (e ∷ es)) (sym (held_written s format) ∙ holds)
    (record_applies cluster_code entry_code after_entry opening_cluster entry_canonical (λ e. some_entry e) es e body c fits is)

-- a snapshot
holds-snapshot : (s : State) (c : Cluster) → IsTrue (cluster_fits c) → held (compacted s (cluster_bytes c)) ≡ Ok c
unfolding cluster_bytes cluster_fits
holds-snapshot s c fits =
    held_written (compacted s (cluster_bytes c)) refl
    ∙ held_in-compacted cluster_code entry_code after_entry opening_cluster s (cluster_bytes c) c cluster_canonical fits refl (some_cluster c fits)

-- what is kept of a batch stands for the cluster after it
pub holds-stored : (compacting : Bool) (s : State) (body : List ℕ) (c d : Cluster) (entries : List Entry) → held s ≡ Ok c → body ≡ flat_map entry_bytes entries
    → 0 < length body → AreFit entries → d ≡ fold after_entry c entries → (compacting ≡ true → IsTrue (cluster_fits d)) → (compacting ≡ false → s.format ≡ 2)
    → held (stored compacting s body (cluster_bytes d)) ≡ Ok d
holds-stored true s body c d entries holds is some fits made known format = holds-snapshot s d (known refl)
holds-stored false s body c d [] holds is some fits made known format = absurd (omega (arith, ap length is))
holds-stored false s body c d (e ∷ es) holds is some fits made known format =
    holds-record s body c e es (format refl) holds is fits ∙ ap (λ x. Ok x) (sym made)

-- entries without bytes are none
pub no_entries : (entries : List Entry) (body : List ℕ) → body ≡ flat_map entry_bytes entries → body ≡ [] → entries ≡ []
no_entries [] body is none = refl
no_entries (e ∷ es) body is none =
    absurd (omega (arith, ap length (sym none ∙ is), ap length (flat_map-cons entry_bytes e es), length-append (entry_bytes e) (flat_map entry_bytes es), some_entry e))
