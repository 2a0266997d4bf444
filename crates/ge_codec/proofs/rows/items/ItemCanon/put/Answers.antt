use Rattle.ge_codec.proofs.rows.items.ItemCanon.put.Goals as goal

pub returns-in-Complexes-clause-ok : goal.returns-in-Complexes-clause-ok
returns-in-Complexes-clause-ok c = rw c.in-Complexes.is c.put_variant.ensures.ok

pub returns-in-Complexes-clause-fits : goal.returns-in-Complexes-clause-fits
returns-in-Complexes-clause-fits c = rw c.in-Complexes.is c.put_variant.ensures.fits

pub returns-in-Host-clause-ok : goal.returns-in-Host-clause-ok
returns-in-Host-clause-ok c = rw c.in-Host.is c.put_variant-in-Host.ensures.ok

pub returns-in-Host-clause-fits : goal.returns-in-Host-clause-fits
returns-in-Host-clause-fits c = rw c.in-Host.is c.put_variant-in-Host.ensures.fits

pub returns-in-Group-clause-ok : goal.returns-in-Group-clause-ok
returns-in-Group-clause-ok c = rw c.in-Group.is c.put_variant-in-Group.ensures.ok

pub returns-in-Group-clause-fits : goal.returns-in-Group-clause-fits
returns-in-Group-clause-fits c = rw c.in-Group.is c.put_variant-in-Group.ensures.fits

pub returns-in-Queue-clause-ok : goal.returns-in-Queue-clause-ok
returns-in-Queue-clause-ok c = rw c.in-Queue.is c.put_variant-in-Queue.ensures.ok

pub returns-in-Queue-clause-fits : goal.returns-in-Queue-clause-fits
returns-in-Queue-clause-fits c = rw c.in-Queue.is c.put_variant-in-Queue.ensures.fits

pub returns-in-Pe-clause-ok : goal.returns-in-Pe-clause-ok
returns-in-Pe-clause-ok c = rw c.in-Pe.is c.put_variant-in-Pe.ensures.ok

pub returns-in-Pe-clause-fits : goal.returns-in-Pe-clause-fits
returns-in-Pe-clause-fits c = rw c.in-Pe.is c.put_variant-in-Pe.ensures.fits

pub returns-in-Quota-clause-ok : goal.returns-in-Quota-clause-ok
returns-in-Quota-clause-ok c = rw c.in-Quota.is c.put_variant-in-Quota.ensures.ok

pub returns-in-Quota-clause-fits : goal.returns-in-Quota-clause-fits
returns-in-Quota-clause-fits c = rw c.in-Quota.is c.put_variant-in-Quota.ensures.fits

pub returns-in-Set-clause-ok : goal.returns-in-Set-clause-ok
returns-in-Set-clause-ok c = rw c.in-Set.is c.put_variant-in-Set.ensures.ok

pub returns-in-Set-clause-fits : goal.returns-in-Set-clause-fits
returns-in-Set-clause-fits c = rw c.in-Set.is c.put_variant-in-Set.ensures.fits

pub returns-in-User-clause-ok : goal.returns-in-User-clause-ok
returns-in-User-clause-ok c = rw c.in-User.is c.put_variant-in-User.ensures.ok

pub returns-in-User-clause-fits : goal.returns-in-User-clause-fits
returns-in-User-clause-fits c = rw c.in-User.is c.put_variant-in-User.ensures.fits

pub returns-in-Project-clause-ok : goal.returns-in-Project-clause-ok
returns-in-Project-clause-ok c = rw c.in-Project.is c.put_variant-in-Project.ensures.ok

pub returns-in-Project-clause-fits : goal.returns-in-Project-clause-fits
returns-in-Project-clause-fits c = rw c.in-Project.is c.put_variant-in-Project.ensures.fits

pub returns-in-Shares-clause-ok : goal.returns-in-Shares-clause-ok
returns-in-Shares-clause-ok c = rw c.in-Shares.is c.put_variant-in-Shares.ensures.ok

pub returns-in-Shares-clause-fits : goal.returns-in-Shares-clause-fits
returns-in-Shares-clause-fits c = rw c.in-Shares.is c.put_variant-in-Shares.ensures.fits

pub returns-in-Sched-clause-ok : goal.returns-in-Sched-clause-ok
returns-in-Sched-clause-ok c = rw c.in-Sched.is c.put_variant-in-Sched.ensures.ok

pub returns-in-Sched-clause-fits : goal.returns-in-Sched-clause-fits
returns-in-Sched-clause-fits c = rw c.in-Sched.is c.put_variant-in-Sched.ensures.fits

pub returns-in-Managers-clause-ok : goal.returns-in-Managers-clause-ok
returns-in-Managers-clause-ok c = rw c.in-Managers.is c.put_variant-in-Managers.ensures.ok

pub returns-in-Managers-clause-fits : goal.returns-in-Managers-clause-fits
returns-in-Managers-clause-fits c = rw c.in-Managers.is c.put_variant-in-Managers.ensures.fits

pub returns-in-Operators-clause-ok : goal.returns-in-Operators-clause-ok
returns-in-Operators-clause-ok c = rw c.in-Operators.is c.put_variant-in-Operators.ensures.ok

pub returns-in-Operators-clause-fits : goal.returns-in-Operators-clause-fits
returns-in-Operators-clause-fits c = rw c.in-Operators.is c.put_variant-in-Operators.ensures.fits
