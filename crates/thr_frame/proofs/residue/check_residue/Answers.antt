use Rattle.std.proofs.Common.{◌≡◌, ℕ, ℤ, pos, Bool, true, false, List, length, replicate, Ok, refl, sym, ◌∙◌}
use Rattle.std.specs.List.{list_any}
use Rattle.vid_base.specs.declared.shape.Shape.{Shape}
use Rattle.thr_setup.specs.Setup.{Contents, contents}
use Rattle.thr_token.specs.Coefficients.{coefficients}
use Rattle.thr_frame.specs.Parsed.{Residue, blank_values, block_count, residue_of}
use Rattle.thr_frame.specs.QuantiserPlaces.{places_of}
use Rattle.thr_frame.proofs.residue.check_residue.Goals as goal

-- where no block is coded nothing is read
none_read : (setup : Contents) (s : Shape) (count : ℕ) (flags bits : List Bool) → list_any (λ coded. coded) flags ≡ false → (x : Residue) × (residue_of setup s count flags bits ≡ Ok (x, bits))
unfolding residue_of
none_read setup s count flags bits h = (record { places = replicate (block_count s) 0; values = blank_values s; counts = replicate (block_count s) 0 }, rw h refl)

some_read : (setup : Contents) (s : Shape) (count : ℕ) (flags bits : List Bool) (places : List ℕ) (behind : List Bool) (values : List (List ℤ) × List ℕ) (left : List Bool) → list_any (λ coded. coded) flags ≡ true
    → places_of count flags bits ≡ Ok (places, behind) → coefficients setup.forest s flags behind ≡ Ok (values, left) → (x : Residue) × (residue_of setup s count flags bits ≡ Ok (x, left))
unfolding residue_of
some_read setup s count flags bits places behind values left h p v = (record { places = places; values = values.0; counts = values.1 }, rw (h, p, v) refl)

pub returns-then-not-is_any_coded-clause-value : goal.returns-then-not-is_any_coded-clause-value
returns-then-not-is_any_coded-clause-value c =
    none_read (contents c.args.setup.now) c.args.geom.now c.args.count c.args.flags.now c.args.r.now.left (sym c.is_any_coded.ensures ∙ c.if-not-is_any_coded.true)

pub returns-clause-value : goal.returns-clause-value
returns-clause-value c =
    let read = c.in_ok-check_tokens.ensures.value in
    some_read (contents c.args.setup.now) c.args.geom.now c.args.count c.args.flags.now c.args.r.now.left _ _ read.0 _
    (sym c.is_any_coded.ensures ∙ c.if-not-is_any_coded.false) c.in_ok-read_places.ensures.value read.1
