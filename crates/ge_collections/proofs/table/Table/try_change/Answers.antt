-- What `get_mut` lends is set to its edit; or all stays.
use Rattle.std.proofs.Common.{sym, ap}
use Rattle.std.specs.BTreeMap.{is_at}
use Rattle.ge_collections.proofs.Changed.{change_value-written, change_value-absent, set_value-unchanged}
use Rattle.ge_collections.proofs.table.Table.try_change.Goals as goal

pub returns-in-Err-clause-err : goal.returns-in-Err-clause-err
returns-in-Err-clause-err g c =
    set_value-unchanged (is_at (g.K.Ord.cmp c.args.key.now)) _ _ _ c.in-Some.row.now c.try_edit.new.row
    c.self.view_is (sym c.in-Some.ensures.value) (c.get_mut.follows.holds c.try_edit.new.row).0 c.in-Err.ensures.err

pub returns-clause-changed : goal.returns-clause-changed
returns-clause-changed g c =
    change_value-written (is_at (g.K.Ord.cmp c.args.key.now)) (g.E.TryEdit.edited c.args.edit.now) _ _ _ c.in-Some.row.now c.try_edit.new.row
    c.self.view_is (sym c.in-Some.ensures.value) (c.get_mut.follows.holds c.try_edit.new.row).0 c.in_default.ensures.ok

pub returns-in-None-clause-changed : goal.returns-in-None-clause-changed
returns-in-None-clause-changed g c =
    change_value-absent (is_at (g.K.Ord.cmp c.args.key.now)) (g.E.TryEdit.edited c.args.edit.now) _ _ _
    c.self.view_is (sym c.in-None.ensures.value) (ap (λ m. m.entries) c.get_mut.follows.holds-at-none)
