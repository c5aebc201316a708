-- What the packets of a track so far say: their headers, as they end one after the other (Theora I, 6).
use Rattle.std.specs.Prelude.{ℕ}
use Rattle.thr_ident.specs.Header.{Header}
use Rattle.thr_setup.specs.Setup.{Contents}

-- nothing; the identification header; the comment header behind it; and the setup header, behind which frames come
pub data Said : Type 0 where
  Start : Said
  WithIdent : Header → Said
  WithComment : Header → Said
  WithSetup : Header → Contents → Said

-- how many low bits of a granule position count the frames behind a key frame; 0 where it is not said
abbrev pub shift_of : Said → ℕ
shift_of Start = 0
shift_of (WithIdent header) = header.shift
shift_of (WithComment header) = header.shift
shift_of (WithSetup header contents) = header.shift

-- how many headers have ended
abbrev pub said_count : Said → ℕ
said_count Start = 0
said_count (WithIdent header) = 1
said_count (WithComment header) = 2
said_count (WithSetup header contents) = 3
