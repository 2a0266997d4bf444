use Rattle.std.proofs.Common.{◌++◌, ap, ◌∙◌}
use Rattle.std.specs.List.{slice_set}
use Rattle.ge_model_world.specs.Worlds.{acted, cut_short, starts_at}
use Rattle.ge_world.proofs.Replaced.{acts}
use Rattle.ge_world.proofs.acting.act.Goals as goal

pub returns : goal.returns
returns c =
    acts c.args.w.now c.args.place c.args.act c.args.most c.replace-d.result c.new-2.result c.act_or_stop.new.d c.replace.new.self c.note_starts.new.started c.in_ok-serials.serials
    c.replace-d.ensures.value
    (c.replace.ensures.rest ∙ ap (λ ds. slice_set ds c.args.place c.act_or_stop.new.d) c.replace-d.ensures.rest)
    (c.in_ok-serials.ensures.daemon ∙ (λ i. (cut_short c.args.most (acted (c.items.ensures i) c.args.place c.replace-d.result c.args.act)).0))
    (c.in_ok-serials.ensures.starts ∙ (λ i. (cut_short c.args.most (acted (c.items.ensures i) c.args.place c.replace-d.result c.args.act)).1))
    (c.in_ok-note_starts.ensures ∙ ap (λ ss. c.args.w.now.started ++ starts_at c.args.place ss) c.items-2.ensures)
