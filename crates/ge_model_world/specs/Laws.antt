-- What a master must be like, so that a world starts and accounts each serial once.
use Rattle.std.specs.Prelude.{◌≡◌, ◌⊎◌, ℕ, ◌≤◌, ◌<◌, nat_eq, true, false, List, [], ◌∷◌, ◌++◌, map, Some, Ok}
use Rattle.std.specs.List.{IsDistinct, slice_get}
use Rattle.ge_limits.specs.Limits as limit
use Rattle.ge_model_rows.specs.ClusterRows.{Cluster}
use Rattle.ge_model_rows.specs.AccountRows.{Line}
use Rattle.ge_model_rows.specs.EntryRows.{Entry}
use Rattle.ge_model_rows.specs.EventRows.{Event}
use Rattle.ge_execd.specs.declared.rows.OrderLine.{OrderLine}
use Rattle.ge_execd.specs.Orders.{orders_in, line_serial}
use Rattle.ge_execd.specs.Daemons.{may_end}
use Rattle.ge_model_world.specs.declared.rows.Report.{Report}
use Rattle.ge_model_world.specs.declared.rows.Finished.{Finished}
use Rattle.ge_model_world.specs.declared.rows.Finished.TheVariants.{Reported, Forced}
use Rattle.ge_model_world.specs.declared.rows.World.{World}
use Rattle.ge_model_world.specs.Masters.{Master}
use Rattle.ge_model_world.specs.Worlds.{report_event, gone, root_event}

-- an element of a list
pub data Has {X : Type 0} (x : X) : List X → Type 0 where
  here : {xs : List X} → Has x (x ∷ xs)
  there : {y : X} {xs : List X} → Has x xs → Has x (y ∷ xs)

-- a serial that runs, and the host that runs it
abbrev pub Post : Type 0
Post = ℕ × List ℕ

abbrev pub post_serial : Post → ℕ
post_serial post = post.0

-- a report that a daemon can send: its numbers fit
pub record Fits (serial exit cpu mem io : ℕ) : Type 0 where
  pub in_range : serial ≤ limit.last_serial
  pub amounts : may_end exit cpu mem io ≡ true

-- the line of an end has the exit and the amounts of a report
pub record IsLineOf (r : Report) (line : Line) : Type 0 where
  pub exit : line.exit ≡ r.exit
  pub cpu : line.cpu ≡ r.cpu
  pub mem : line.mem ≡ r.mem
  pub io : line.io ≡ r.io

-- what the entry of a report does: it takes no serial but the report's from those that run, and writes its line behind the others
pub record IsEndOf (m : Master) (c : Cluster) (r : Report) (entry : Entry) : Type 0 where
  pub line : Line
  pub written : m.lines (m.after c entry) ≡ m.lines c ++ line ∷ []
  pub told : IsLineOf r line
  pub alone : (s : ℕ) → Has s (gone (m.serials c) (m.serials (m.after c entry))) → s ≡ r.serial

-- laws of a master, by what is called a sound cluster of it, its next serial, what runs where, and which texts are names of hosts
pub record Laws (m : Master) (IsSound : Cluster → Type 0) (next : Cluster → ℕ) (posts : Cluster → List Post) (IsHost : List ℕ → Type 0) : Type 0 where
  -- the first cluster is sound, and a sound one is sound after each entry of a plan
  pub opening : IsSound m.opening
  pub kept : (c : Cluster) (e : Event) (entry : Entry) → IsSound c → (m.plan c e).entry ≡ Some entry → IsSound (m.after c entry)
  -- the serials that run, with their hosts; they differ, and are below the next one
  pub serials : (c : Cluster) → m.serials c ≡ map post_serial (posts c)
  pub different : (c : Cluster) → IsSound c → IsDistinct nat_eq (m.serials c)
  pub below : (c : Cluster) (s : ℕ) (h : List ℕ) → IsSound c → Has (s, h) (posts c) → s < next c
  -- what runs after an entry ran before it on the same host, or has a serial from the next one on; the next one never falls
  pub stays : (c : Cluster) (e : Event) (entry : Entry) (s : ℕ) (h : List ℕ) → IsSound c → (m.plan c e).entry ≡ Some entry → Has (s, h) (posts (m.after c entry))
      → Has (s, h) (posts c) ⊎ (next c ≤ s)
  pub grows : (c : Cluster) (e : Event) (entry : Entry) → IsSound c → (m.plan c e).entry ≡ Some entry → next c ≤ next (m.after c entry)
  -- lines are written behind those that there are
  pub lines : (c : Cluster) (entry : Entry) → (more : List Line) × (m.lines (m.after c entry) ≡ m.lines c ++ more)
  -- a reply to orders names serials alone that run on the host
  pub orders : (c : Cluster) (moment : ℕ) (h : List ℕ) (lines : List OrderLine) (o : OrderLine) → IsSound c → IsHost h
      → orders_in (m.plan c (root_event moment (m.orders_text h))).reply ≡ Ok lines → Has o lines → Has (line_serial o, h) (posts c)
  -- the entry of a report is that of its end
  pub ends : (c : Cluster) (moment : ℕ) (r : Report) (entry : Entry) → IsSound c → Fits r.serial r.exit r.cpu r.mem r.io
      → (m.plan c (report_event moment r)).entry ≡ Some entry → IsEndOf m c r entry
  -- no other text has the entry of an end
  pub others : (c : Cluster) (e : Event) (entry : Entry) → m.is_end_text e.text ≡ false → (m.plan c e).entry ≡ Some entry → m.is_end entry ≡ false

-- hosts are different
abbrev pub AreApart : List (List ℕ) → Type 0
AreApart hosts = (i j : ℕ) (h : List ℕ) → slice_get hosts i ≡ Some h → slice_get hosts j ≡ Some h → i ≡ j

-- each is one that the master can be asked for
abbrev pub AreHosts : (List ℕ → Type 0) → List (List ℕ) → Type 0
AreHosts IsHost hosts = (d : ℕ) (h : List ℕ) → slice_get hosts d ≡ Some h → IsHost h

-- how a finished serial is told: its report was sent, and the line at its place has the report's exit and amounts
abbrev pub IsTold : List Report → List Line → Finished → Type 0
IsTold reports lines (Reported serial place) =
    (r : Report) × Has r reports × (r.serial ≡ serial) × ((line : Line) × (slice_get lines place ≡ Some line) × IsLineOf r line)
IsTold reports lines (Forced serial) = Unit {0}

abbrev pub finished_serial : Finished → ℕ
finished_serial (Reported serial place) = serial
finished_serial (Forced serial) = serial

abbrev pub started_serial : ℕ × ℕ → ℕ
started_serial started = started.1

-- Each serial is started at most once over all daemons, and accounted at most once; the line of a report has the exit and the amounts
-- that its daemon kept, and all reports of a serial are one.
pub record KeepsOnce (m : Master) (w : World) : Type 0 where
  pub started : IsDistinct nat_eq (map started_serial w.started)
  pub finished : IsDistinct nat_eq (map finished_serial w.finished)
  pub told : (f : Finished) → Has f w.finished → IsTold w.reports (m.lines w.cluster) f
  pub agree : (r s : Report) → Has r w.reports → Has s w.reports → r.serial ≡ s.serial → r ≡ s
