use Rattle.std.proofs.Common.{subst}
use Rattle.std.specs.Prelude.{List, ℕ}
use Rattle.std.proofs.lemmas.List.Elements.{All-weaker}
use Rattle.thr_token.specs.Tokenised.{IsToken}
use Rattle.thr_token.specs.WrittenTokens.{IsHeld}
use Rattle.enc_packet.specs.FullRows.{AreAmong}
use Rattle.enc_packet.proofs.RowLemmas.{row_is_full, held_by_rows}
use Rattle.enc_packet.proofs.residue.tables_for.Goals as goal

pub returns : goal.returns
returns c =
    let among = subst (λ (rows : List ℕ). AreAmong rows c.tables.result) c.requires.rows c.tables.ensures.among in
    record {
      dc = ((row_is_full c.args.forest.now c.tables.result.luma_dc among.luma_dc).0, (row_is_full c.args.forest.now c.tables.result.chroma_dc among.chroma_dc).0);
      ac = ((row_is_full c.args.forest.now c.tables.result.luma_ac among.luma_ac).0, (row_is_full c.args.forest.now c.tables.result.chroma_ac among.chroma_ac).0);
      held = All-weaker IsToken (IsHeld c.args.forest.now c.tables.result) (held_by_rows c.args.forest.now c.tables.result among) c.args.tokens.now c.requires.tokens;
    }
