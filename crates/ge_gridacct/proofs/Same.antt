-- Two lines with the same fields are one.
use Rattle.std.proofs.Common.{◌≡◌, ap}
use Rattle.ge_model_rows.specs.AccountRows.{Line}
use Rattle.ge_gridacct.specs.Lines.{HaveSameTexts, HaveSameNumbers}

pub one_line : (line other : Line) → HaveSameNumbers line other → HaveSameTexts line other → line ≡ other
one_line line other n t = λ i. record {
  queue = t.queue i;
  host = t.host i;
  group = t.group i;
  owner = t.owner i;
  name = t.name i;
  job = n.job i;
  account = t.account i;
  priority = n.priority i;
  submitted = n.submitted i;
  start = n.start i;
  end = n.end i;
  failed = n.failed i;
  exit = n.exit i;
  project = t.project i;
  pe = t.pe i;
  slots = n.slots i;
  task = n.task i;
  cpu = n.cpu i;
  mem = n.mem i;
  io = n.io i;
}

pub same_texts : (line other : Line) → line ≡ other → HaveSameTexts line other
same_texts line other same = record {
  queue = ap (λ (l : Line). l.queue) same;
  host = ap (λ (l : Line). l.host) same;
  group = ap (λ (l : Line). l.group) same;
  owner = ap (λ (l : Line). l.owner) same;
  name = ap (λ (l : Line). l.name) same;
  account = ap (λ (l : Line). l.account) same;
  project = ap (λ (l : Line). l.project) same;
  pe = ap (λ (l : Line). l.pe) same;
}

pub same_numbers : (line other : Line) → line ≡ other → HaveSameNumbers line other
same_numbers line other same = record {
  job = ap (λ (l : Line). l.job) same;
  priority = ap (λ (l : Line). l.priority) same;
  submitted = ap (λ (l : Line). l.submitted) same;
  start = ap (λ (l : Line). l.start) same;
  end = ap (λ (l : Line). l.end) same;
  failed = ap (λ (l : Line). l.failed) same;
  exit = ap (λ (l : Line). l.exit) same;
  slots = ap (λ (l : Line). l.slots) same;
  task = ap (λ (l : Line). l.task) same;
  cpu = ap (λ (l : Line). l.cpu) same;
  mem = ap (λ (l : Line). l.mem) same;
  io = ap (λ (l : Line). l.io) same;
}
