use Rattle.ge_codec.proofs.rows.entries.ChangeCanon.put.Goals as goal

pub returns-in-Submit-clause-ok : goal.returns-in-Submit-clause-ok
returns-in-Submit-clause-ok c = rw c.in-Submit.is c.put_variant.ensures.ok

pub returns-in-Submit-clause-fits : goal.returns-in-Submit-clause-fits
returns-in-Submit-clause-fits c = rw c.in-Submit.is c.put_variant.ensures.fits

pub returns-in-Alter-clause-ok : goal.returns-in-Alter-clause-ok
returns-in-Alter-clause-ok c = rw c.in-Alter.is c.put_variant-in-Alter.ensures.ok

pub returns-in-Alter-clause-fits : goal.returns-in-Alter-clause-fits
returns-in-Alter-clause-fits c = rw c.in-Alter.is c.put_variant-in-Alter.ensures.fits

pub returns-in-Hold-clause-ok : goal.returns-in-Hold-clause-ok
returns-in-Hold-clause-ok c = rw c.in-Hold.is c.put_variant-in-Hold.ensures.ok

pub returns-in-Hold-clause-fits : goal.returns-in-Hold-clause-fits
returns-in-Hold-clause-fits c = rw c.in-Hold.is c.put_variant-in-Hold.ensures.fits

pub returns-in-Release-clause-ok : goal.returns-in-Release-clause-ok
returns-in-Release-clause-ok c = rw c.in-Release.is c.put_variant-in-Release.ensures.ok

pub returns-in-Release-clause-fits : goal.returns-in-Release-clause-fits
returns-in-Release-clause-fits c = rw c.in-Release.is c.put_variant-in-Release.ensures.fits

pub returns-in-Delete-clause-ok : goal.returns-in-Delete-clause-ok
returns-in-Delete-clause-ok c = rw c.in-Delete.is c.put_variant-in-Delete.ensures.ok

pub returns-in-Delete-clause-fits : goal.returns-in-Delete-clause-fits
returns-in-Delete-clause-fits c = rw c.in-Delete.is c.put_variant-in-Delete.ensures.fits

pub returns-in-Clear-clause-ok : goal.returns-in-Clear-clause-ok
returns-in-Clear-clause-ok c = rw c.in-Clear.is c.put_variant-in-Clear.ensures.ok

pub returns-in-Clear-clause-fits : goal.returns-in-Clear-clause-fits
returns-in-Clear-clause-fits c = rw c.in-Clear.is c.put_variant-in-Clear.ensures.fits

pub returns-in-Drop-clause-ok : goal.returns-in-Drop-clause-ok
returns-in-Drop-clause-ok c = rw c.in-Drop.is c.put_variant-in-Drop.ensures.ok

pub returns-in-Drop-clause-fits : goal.returns-in-Drop-clause-fits
returns-in-Drop-clause-fits c = rw c.in-Drop.is c.put_variant-in-Drop.ensures.fits

pub returns-in-Load-clause-ok : goal.returns-in-Load-clause-ok
returns-in-Load-clause-ok c = rw c.in-Load.is c.put_variant-in-Load.ensures.ok

pub returns-in-Load-clause-fits : goal.returns-in-Load-clause-fits
returns-in-Load-clause-fits c = rw c.in-Load.is c.put_variant-in-Load.ensures.fits

pub returns-in-End-clause-ok : goal.returns-in-End-clause-ok
returns-in-End-clause-ok c = rw c.in-End.is c.put_variant-in-End.ensures.ok

pub returns-in-End-clause-fits : goal.returns-in-End-clause-fits
returns-in-End-clause-fits c = rw c.in-End.is c.put_variant-in-End.ensures.fits

pub returns-in-Run-clause-ok : goal.returns-in-Run-clause-ok
returns-in-Run-clause-ok c = rw c.in-Run.is c.put_variant-in-Run.ensures.ok

pub returns-in-Run-clause-fits : goal.returns-in-Run-clause-fits
returns-in-Run-clause-fits c = rw c.in-Run.is c.put_variant-in-Run.ensures.fits

pub returns-in-Unbook-clause-ok : goal.returns-in-Unbook-clause-ok
returns-in-Unbook-clause-ok c = rw c.in-Unbook.is c.put_variant-in-Unbook.ensures.ok

pub returns-in-Unbook-clause-fits : goal.returns-in-Unbook-clause-fits
returns-in-Unbook-clause-fits c = rw c.in-Unbook.is c.put_variant-in-Unbook.ensures.fits
