use Rattle.std.proofs.Common.{◌≡◌, map}
use Rattle.std.specs.Map.{keys_of}
use Rattle.std.specs.Map.Iter.{deref}
use Rattle.std.proofs.lemmas.Map.Iter.{rest_more}
use Rattle.ge_model_rows.specs.Groups.{members_of, members_or_none, expanded}
use Rattle.ge_site.proofs.Spelling.{spelled_more, all_spelled}
use Rattle.ge_site.proofs.gathering.expand.Goals as goal

pub loop-name-preserved : goal.loop-name-preserved
loop-name-preserved c =
    let groups = c.args.cluster.now.groups in
    spelled_more (λ name. members_or_none (members_of groups name)) (keys_of groups) c.loop-name.hosts c.add_members.new.hosts c.loop-name.name-iterator c.next.new.self c.in-Some.name.now
    c.keys-name-items.ensures.rising c.loop-name.invariant (rest_more deref c.loop-name.name-iterator c.next.new.self c.next.result c.in-Some.name c.in-Some.is c.next.ensures.steps) c.in_ok-add_members.ensures

pub returns : goal.returns
unfolding expanded
returns c =
    let groups = c.args.cluster.now.groups in
    let all : c.loop-name.hosts ≡ map (λ group. (group.0, members_or_none (members_of groups group.0))) groups =
    all_spelled (λ name. members_or_none (members_of groups name)) groups c.loop-name.hosts c.loop-name.name-iterator c.in-None.ensures.steps.0 c.loop-name.invariant in
    λ i. record { hosts = all i }
