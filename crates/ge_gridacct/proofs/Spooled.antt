-- A flush over areas that were opened.
use Rattle.std.proofs.Common.{◌≡◌, ◌≢◌, ℕ, List, [], ◌∷◌, Result, Ok, Err, ap, ◌∙◌, sym, subst, inr}
use Rattle.ge_outside.specs.Faults.{Rose}
use Rattle.ge_model_rows.specs.AccountRows.{Line}
use Rattle.ge_model_rows.specs.ClusterRows.{Cluster}
use Rattle.ge_model_journal.specs.Disk.{read_bytes}
use Rattle.ge_model_program.specs.Statuses.{IsOneStatusOf}
use Rattle.ge_model_program.specs.declared.Wrong.{Wrong}
use Rattle.ge_master.specs.Areas.{Areas}
use Rattle.ge_master.specs.OpeningMasters.{OpensMaster}
use Rattle.ge_master.specs.declared.master.Master.{Master}
use Rattle.ge_master.specs.Masters.{cluster_of}
use Rattle.ge_gridacct.specs.Flushes.{Flushes, FlushesLines, SpoolSays, SpoolTells}
use Rattle.ge_gridacct.specs.Sights.{Sight}

module _ (status : ℕ) (a b : Areas) (x y : Sight) (m : Master) (opens : OpensMaster (Ok m) a b) where
  not_wrong : (wrong : Wrong) → SpoolSays a (Err wrong) → ⊥
  not_wrong wrong says = subst is_ok (sym (opens.opened says.0 says.1).stood ∙ says.2) tt
    where
      is_ok : Result Cluster Wrong → Type 0
      is_ok (Ok c) = Unit {0}
      is_ok (Err w) = ⊥

  same_cluster : (start : Cluster) → SpoolSays a (Ok start) → cluster_of m ≡ start
  same_cluster start says = ap held (sym (opens.opened says.0 says.1).stood ∙ says.2)
    where
      held : Result Cluster Wrong → Cluster
      held (Ok c) = c
      held (Err w) = start

  pub flushes_opened : (lines : List Line) → lines ≡ (cluster_of m).lines → IsOneStatusOf (0 ∷ 4 ∷ 5 ∷ 7 ∷ 8 ∷ 10 ∷ 11 ∷ 12 ∷ []) status → status ≢ 4 → FlushesLines status lines x y
      → (status ≢ 0 → status ≢ 7 → y.output ≡ x.output) → (status ≡ 7 → Rose x.writes y.writes) → (status ≡ 8 → Rose x.faults y.faults) → Flushes status a b x y
  flushes_opened lines is statuses no_four flushes unwritten written disk = record {
    statuses = statuses;
    opened = tells;
    untouched = λ wrong says. absurd (not_wrong wrong says);
    flushed = λ start says. subst (λ ls. FlushesLines status ls x y) (is ∙ ap (λ (c : Cluster). c.lines) (same_cluster start says)) flushes;
    unwritten = unwritten;
    spool_stands = λ start quiet_a quiet_b says. opens.any_moment (read_bytes a.a) (read_bytes a.b) quiet_a quiet_b start says.2;
    written = written;
    disk = λ eight. inr (disk eight);
    syncs = opens.syncs;
  }
    where
      tells : (stood : Result Cluster Wrong) → SpoolSays a stood → SpoolTells status stood
      tells (Ok start) says = no_four
      tells (Err wrong) says = absurd (not_wrong wrong says)
