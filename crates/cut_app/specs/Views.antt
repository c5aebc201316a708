-- A command that the program found in its words, as a form of words.
use Rattle.std.specs.Prelude.{⊤}
use Rattle.cut_make.specs.Films.{IsFilm}
use Rattle.cut_app.specs.declared.words.Command.{Command}
use Rattle.cut_app.specs.declared.words.Command.TheVariants.{Check, Cut, Export, Import, Make, Plan}
use Rattle.cut_app.specs.Forms.{Form}
use Rattle.cut_app.specs.Forms.Form.{Checking, Cutting, Exporting, Importing, Making, Planning}
use Rattle.cut_app.specs.Imports.{IsCoding}

abbrev pub form_view : Command → Form
form_view (Check file) = Checking file.now
form_view (Export file out) = Exporting (record { file = file.now; out = out.now })
form_view (Import y4m out coding) = Importing (record { y4m = y4m.now; out = out.now; coding = coding })
form_view (Make film out) = Making (record { film = film; out = out.now })
form_view (Plan list source) = Planning (record { list = list.now; source = source.now })
form_view (Cut list out source) = Cutting (record { list = list.now; out = out.now; source = source.now })

-- the numbers in the words are within their limits
abbrev pub IsWithinLimits : Form → Type 0
IsWithinLimits (Making make) = IsFilm make.film
IsWithinLimits (Importing import) = IsCoding import.coding
IsWithinLimits (Checking file) = ⊤
IsWithinLimits (Exporting export) = ⊤
IsWithinLimits (Planning plan) = ⊤
IsWithinLimits (Cutting cut) = ⊤
