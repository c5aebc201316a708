use Rattle.std.proofs.Common.{◌≡◌, ◌∙◌, ◌<◌, length, ap, arith, refl, subst, sym}
use Rattle.std.proofs.lemmas.List.Elements.{All-get_or}
use Rattle.std.proofs.lemmas.Option.{slice_get_read}
use Rattle.vid_geom.specs.CodedOrder.{superblock_ranges}
use Rattle.vid_geom.proofs.SuperblockLemmas.{length-superblock_ranges, range_is}
use Rattle.vid_geom.proofs.geom.Geom.superblock.Goals as goal

pub index-requires : goal.index-requires
index-requires c =
    let all : c.self.inside.superblocks.items ≡ superblock_ranges c.args.self.now = c.self.invariant.superblocks_are ∙ ap superblock_ranges c.self.view_is in
    omega (arith, ap length all, length-superblock_ranges c.args.self.now)

pub returns-clause-value : goal.returns-clause-value
returns-clause-value c =
    let all : c.self.inside.superblocks.items ≡ superblock_ranges c.args.self.now = c.self.invariant.superblocks_are ∙ ap superblock_ranges c.self.view_is in
    rw (← all) (slice_get_read c.self.inside.superblocks.items (length c.self.inside.superblocks.items) c.args.s c.index.result.now refl (omega (arith, ap length all, length-superblock_ranges c.args.self.now)) c.index.ensures)

pub returns-clause-first : goal.returns-clause-first
returns-clause-first c = (range_is c.args.self.now c.args.s c.index.result.now (returns-clause-value c)).first

pub returns-clause-past : goal.returns-clause-past
returns-clause-past c = (range_is c.args.self.now c.args.s c.index.result.now (returns-clause-value c)).past

pub returns-clause-within : goal.returns-clause-within
returns-clause-within c =
    let all : c.self.inside.superblocks.items ≡ superblock_ranges c.args.self.now = c.self.invariant.superblocks_are ∙ ap superblock_ranges c.self.view_is in
    let within : c.args.s < length c.self.inside.superblocks.items = omega (arith, ap length all, length-superblock_ranges c.args.self.now) in
    let some = All-get_or (λ range. range.0 < range.1) c.self.inside.superblocks.items c.args.s c.index.result.now within c.self.invariant.some in
    (subst (λ range. range.0 < range.1) (sym c.index.ensures) some, (range_is c.args.self.now c.args.s c.index.result.now (returns-clause-value c)).within)
