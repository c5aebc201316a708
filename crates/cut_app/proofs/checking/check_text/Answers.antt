use Rattle.std.proofs.Common.{◌≡◌}
use Rattle.src_index.specs.Index.{frame_count, keys_of}
use Rattle.cut_report.specs.Lines.{link_text}
use Rattle.cut_app.specs.Index.{marked}
use Rattle.cut_app.proofs.checking.check_text.Goals as goal

pub returns : goal.returns
returns c =
    let link : c.link_line.new.out.items ≡ link_text 1 c.ident.result.now (frame_count c.args.source.now) (marked (keys_of c.args.source.now)) = rw (c.new-text.ensures.items, c.frames.ensures.value, c.key_count.ensures) at c.in_ok-link_line.ensures.text in
    record {
      ident = c.ident.result.now;
      header = c.ident.ensures;
      text_is = rw (link, c.seekable.ensures) at c.in_ok-seekable_line.ensures.text;
    }
