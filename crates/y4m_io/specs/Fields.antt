-- What the program keeps of the fields of a head (private).
use Rattle.std.specs.Prelude.{◌≡◌, ⊤, Result, Ok, Err}
use Rattle.y4m_io.specs.declared.field.Fields.{Fields}
use Rattle.y4m_io.specs.declared.fault.Y4mWhy.{Y4mWhy}
use Rattle.y4m_io.specs.HeadLine.{Said}

-- what a clause sees of it
abbrev pub said_by : Fields → Said
said_by f = record { w = f.w; h = f.h; rate = f.rate; aspect = f.aspect; interlace = f.interlace; format = f.format }

-- an answer is this reading: what is kept then, or why it stopped
abbrev pub Says : Result ⊤ Y4mWhy → Said → Result Said Y4mWhy → Type 0
Says (Ok _) kept read = read ≡ Ok kept
Says (Err why) kept read = read ≡ Err why

-- what a clause sees of a value that was read
abbrev pub seen : {A B E : Type 0} → (A → B) → Result A E → Result B E
seen view (Ok value) = Ok (view value)
seen view (Err why) = Err why
