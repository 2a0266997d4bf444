-- Who asks, as the model has it.
use Rattle.ge_model_place.specs.Quotas.{Who as Asker}
use Rattle.ge_quota.specs.declared.asking.Who.{Who}

abbrev pub asked_by : Who → Asker
asked_by who = record {
  user = who.user.now;
  group = who.group.now;
  project = who.project.now;
  pe = who.pe.now;
  queue = who.queue.now;
  host = who.host.now;
}
