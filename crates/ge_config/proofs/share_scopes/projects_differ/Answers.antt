use Rattle.ge_config.proofs.Scopes.{scopes_are}
use Rattle.ge_config.proofs.share_scopes.projects_differ.Goals as goal

pub returns : goal.returns
returns c =
    λ whole.
    scopes_are c.args.nodes.now c.args.projects.now c.in_ok-root.root.ids c.in_ok-root.root.names c.in_ok-root.root.differ c.in_ok-differ.differ
    (c.in_ok-root.ensures.ids whole) c.in_ok-root.ensures.names c.in_ok-root.ensures.differ (c.in_ok-differ.ensures whole)
