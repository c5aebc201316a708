use Rattle.std.proofs.Common.{◌≡◌, ◌∙◌, ℕ, ◌+◌, ◌<◌, Bool, List, [], ◌∷◌, ◌++◌, length, map, replicate, set, take, refl, sym, ap, arith}
use Rattle.std.proofs.lemmas.List.{append-nil, replicate-append-replicate, take_more_set}
use Rattle.thr_token.specs.Coefficients.{first_place}
use Rattle.thr_token.specs.Listing.{listed}
use Rattle.thr_token.proofs.ListingLemmas.{kept, listed_more, listed_none}
use Rattle.thr_token.proofs.waiting.begin_listed.Goals.{then-coded, else-coded}
use Rattle.thr_token.proofs.waiting.begin_listed.Goals as goal

pub flags-init : goal.flags-init
flags-init c = record { low = omega arith; counts_are = refl; list_is = sym (listed_none 0) }

zeros_more : (counts : List ℕ) (b : ℕ) → b < length counts → take b counts ≡ replicate b 0 → take (b + 1) (set counts b 0) ≡ replicate (b + 1) 0
zeros_more counts b h e = take_more_set counts b 0 h ∙ ap (λ z. z ++ 0 ∷ []) e ∙ replicate-append-replicate b 1 0

pub flags-preserved : goal.flags-preserved
flags-preserved c =
    let s = c.flags in
    let flags : List Bool = c.args.flags.now in
    let words : List ℕ = listed 0 (map first_place (take s.b flags)) in
    let counts_are = zeros_more s.counts s.b (omega arith) s.invariant.counts_are in
    let more = listed_more flags s.b (omega arith) in
    elim c.if-coded.branch [
      | then-coded w ↦
          let front = take_more_set s.list s.open w.word_of.result (omega arith) in
          let last = more ∙ ap (λ coded. words ++ kept s.b (first_place coded) []) w.if-coded.true in
          rw (w.list-is, w.open-is) (record {
            low = omega arith;
            counts_are = counts_are;
            list_is = front ∙ ap (λ z. z ++ w.word_of.result ∷ []) s.invariant.list_is ∙ ap (λ z. words ++ z ∷ []) w.word_of.ensures ∙ sym last;
          })
      | else-coded w ↦
          let last = more ∙ ap (λ coded. words ++ kept s.b (first_place coded) []) w.if-coded.false in
          rw (w.list-is, w.open-is) (record {
            low = omega arith;
            counts_are = counts_are;
            list_is = s.invariant.list_is ∙ sym (append-nil words) ∙ sym last;
          })
    ]
