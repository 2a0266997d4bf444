-- The ledger of a journal that is kept on.
use Rattle.std.proofs.Common.{◌≡◌, ℕ, ◌<◌, Bool, true, false, List, [], ◌∷◌, length, refl, ap, ◌∙◌, sym, arith, flat_map}
use Rattle.ge_model_rows.specs.EntryRows.{Entry}
use Rattle.ge_model_program.specs.Keeping.{Ledger, kept_ledger, by_entries, next_ledger}
use Rattle.ge_model_program.specs.StandsFor.{entry_bytes, cluster_bytes}
use Rattle.ge_model_program.specs.Traced.{Traced}
use Rattle.ge_spool.specs.declared.spool.Spool.{Spool}
use Rattle.ge_master.specs.Storing.{IsStored}
use Rattle.ge_master.specs.Handling.{traced_size, traced_compacts}
use Rattle.ge_master.specs.Ledgers.{ledger_of}

-- what has bytes has entries
pub has-entries : (entries : List Entry) (body : List ℕ) → body ≡ flat_map entry_bytes entries → 0 < length body → 0 < length entries
has-entries [] body bytes some = absurd (omega (arith, some, ap length bytes))
has-entries (e ∷ entries) body bytes some = omega arith

-- where nothing changed
pub ledger-same : (t : Traced) (l kept : Ledger) → t.entries ≡ [] → l ≡ by_entries t.entries l kept
ledger-same t l kept none = ap (λ (es : List Entry). by_entries es l kept) (sym none)

ledger-some : (entries : List Entry) (l kept : Ledger) → 0 < length entries → kept ≡ by_entries entries l kept
ledger-some [] l kept some = absurd (omega (arith, some))
ledger-some (e ∷ entries) l kept some = refl

ledger-stored : (compacting : Bool) (old new : Spool) (size snapshot_size : ℕ) → IsStored compacting old new size snapshot_size
    → ledger_of new ≡ kept_ledger compacting (ledger_of old) size snapshot_size
ledger-stored true old new size snapshot_size is = λ i. record { format = is.format i; generation = is.generation i; count = is.count i; end = is.end i }
ledger-stored false old new size snapshot_size is = λ i. record { format = is.format i; generation = is.generation i; count = is.count i; end = is.end i }

-- where something did
pub ledger-next : (t : Traced) (old new : Spool) → 0 < length t.entries → IsStored (traced_compacts old t) old new (traced_size t) (length (cluster_bytes t.cluster))
    → ledger_of new ≡ next_ledger (ledger_of old) t
ledger-next t old new some is =
    ledger-stored (traced_compacts old t) old new (traced_size t) (length (cluster_bytes t.cluster)) is
    ∙ ledger-some t.entries (ledger_of old) (kept_ledger (traced_compacts old t) (ledger_of old) (traced_size t) (length (cluster_bytes t.cluster))) some
