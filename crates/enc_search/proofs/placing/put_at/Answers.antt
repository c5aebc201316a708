use Rattle.std.proofs.Common.{◌∙◌, ◌<◌, length, map, get_or, replicate, sym, refl, arith}
use Rattle.std.proofs.lemmas.List.{map-set, length-replicate, get_or-replicate}
use Rattle.thr_modes.specs.Vectors.{offset_of}
use Rattle.thr_modes.proofs.PutLemmas.{put_more, put_done}
use Rattle.enc_search.proofs.placing.put_at.Goals as goal

pub places-preserved : goal.places-preserved
places-preserved c =
    let v = offset_of c.args.vector in
    let n = length c.args.places.now in
    let place = get_or c.args.places.now c.places.k 0 in
    let within : c.places.k < length (replicate n v) = omega (arith, length-replicate n v) in
    rw (map-set offset_of c.places.vectors place c.args.vector)
    (put_more (map offset_of c.places.vectors) c.args.places.now (replicate n v) c.places.k place v (omega arith) within refl (get_or-replicate n c.places.k v v (omega arith)) ∙ c.places.invariant)

pub returns : goal.returns
returns c = sym (put_done (map offset_of c.places.vectors) c.args.places.now _ c.places.k (omega arith)) ∙ c.places.invariant
