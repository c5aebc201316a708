use Rattle.cut_app.proofs.command.run.Goals as goal

pub returns-in-Check-clause-stops : goal.returns-in-Check-clause-stops
returns-in-Check-clause-stops g c = rw c.in-Check.is c.check.ensures.stops

pub returns-in-Plan-clause-stops : goal.returns-in-Plan-clause-stops
returns-in-Plan-clause-stops g c = rw c.in-Plan.is c.say_plan.ensures.stops

pub returns-in-Export-clause-stops : goal.returns-in-Export-clause-stops
returns-in-Export-clause-stops g c = rw c.in-Export.is c.export_file.ensures.stops

pub returns-in-Make-clause-stops : goal.returns-in-Make-clause-stops
returns-in-Make-clause-stops g c = rw c.in-Make.is c.make_film.ensures.stops

pub returns-in-Import-clause-stops : goal.returns-in-Import-clause-stops
returns-in-Import-clause-stops g c = rw c.in-Import.is c.import_film.ensures.stops
