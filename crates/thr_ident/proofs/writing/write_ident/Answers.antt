use Rattle.std.proofs.Common.{◌≡◌, ℕ, ◌+◌, ◌*◌, ◌^◌, List, [], ◌∷◌, ◌++◌, take, drop, ◌∙◌, ap, append_assoc, arith}
use Rattle.std.specs.Int.{bytes_high_first}
use Rattle.thr_ident.specs.Header.{ident_name, header_bytes}
use Rattle.thr_ident.proofs.IdentLemmas.{ident_of-header_bytes}
use Rattle.thr_ident.proofs.writing.write_ident.Goals as goal

pub returns-in_err-try_reserve-clause-reads_back : goal.returns-in_err-try_reserve-clause-reads_back
returns-in_err-try_reserve-clause-reads_back c = ident_of-header_bytes c.args.ident.now

pub returns-clause-reads_back : goal.returns-clause-reads_back
returns-clause-reads_back c = ident_of-header_bytes c.args.ident.now

-- more bytes behind those that were added
more : (old front bytes prev new : List ℕ) → prev ≡ old ++ front → new ≡ prev ++ bytes → new ≡ old ++ (front ++ bytes)
more old front bytes prev new e f = f ∙ ap (λ items. items ++ bytes) e ∙ append_assoc old front bytes

pub returns-clause-written : goal.returns-clause-written
unfolding header_bytes
returns-clause-written c =
    let ident = c.args.ident.now in
    let old = c.args.out.now.items in
    let last = ident.qual * 2 ^ 10 + ident.shift * 2 ^ 5 + ident.pf * 2 ^ 3 + 0 in
    let low : c.last_fields.result ≡ last = omega (arith, c.last_fields.ensures) in
    let out_1 : c.add.new.out.items ≡ old ++ ident_name = c.add.ensures.items ∙ ap (λ items. items ++ ident_name) c.in_ok-try_reserve.ensures.items in
    let front_1 = ident_name in
    let out_2 = more old front_1 (3 ∷ 2 ∷ []) c.add.new.out.items c.add-2.new.out.items out_1 c.add-2.ensures.items in
    let front_2 = front_1 ++ (3 ∷ 2 ∷ []) in
    let out_3 = more old front_2 (ident.vrev ∷ []) c.add-2.new.out.items c.add-3.new.out.items out_2 c.add-3.ensures.items in
    let front_3 = front_2 ++ (ident.vrev ∷ []) in
    let out_4 = more old front_3 (bytes_high_first 2 ident.fmbw) c.add-3.new.out.items c.add-4.new.out.items out_3 (c.add-4.ensures.items ∙ ap (λ bytes. c.add-3.new.out.items ++ bytes) c.to_be_bytes.ensures) in
    let front_4 = front_3 ++ (bytes_high_first 2 ident.fmbw) in
    let out_5 = more old front_4 (bytes_high_first 2 ident.fmbh) c.add-4.new.out.items c.add-5.new.out.items out_4 (c.add-5.ensures.items ∙ ap (λ bytes. c.add-4.new.out.items ++ bytes) c.to_be_bytes-2.ensures) in
    let front_5 = front_4 ++ (bytes_high_first 2 ident.fmbh) in
    let out_6 = more old front_5 (bytes_high_first 3 ident.picw) c.add-5.new.out.items c.add-6.new.out.items out_5 (c.add-6.ensures.items ∙ ap (λ bytes. c.add-5.new.out.items ++ take 3 (drop 1 bytes)) c.to_be_bytes-3.ensures) in
    let front_6 = front_5 ++ (bytes_high_first 3 ident.picw) in
    let out_7 = more old front_6 (bytes_high_first 3 ident.pich) c.add-6.new.out.items c.add-7.new.out.items out_6 (c.add-7.ensures.items ∙ ap (λ bytes. c.add-6.new.out.items ++ take 3 (drop 1 bytes)) c.to_be_bytes-4.ensures) in
    let front_7 = front_6 ++ (bytes_high_first 3 ident.pich) in
    let out_8 = more old front_7 (ident.picx ∷ ident.picy ∷ []) c.add-7.new.out.items c.add-8.new.out.items out_7 c.add-8.ensures.items in
    let front_8 = front_7 ++ (ident.picx ∷ ident.picy ∷ []) in
    let out_9 = more old front_8 (bytes_high_first 4 ident.frn) c.add-8.new.out.items c.add-9.new.out.items out_8 (c.add-9.ensures.items ∙ ap (λ bytes. c.add-8.new.out.items ++ bytes) c.to_be_bytes-5.ensures) in
    let front_9 = front_8 ++ (bytes_high_first 4 ident.frn) in
    let out_10 = more old front_9 (bytes_high_first 4 ident.frd) c.add-9.new.out.items c.add-10.new.out.items out_9 (c.add-10.ensures.items ∙ ap (λ bytes. c.add-9.new.out.items ++ bytes) c.to_be_bytes-6.ensures) in
    let front_10 = front_9 ++ (bytes_high_first 4 ident.frd) in
    let out_11 = more old front_10 (bytes_high_first 3 ident.parn) c.add-10.new.out.items c.add-11.new.out.items out_10 (c.add-11.ensures.items ∙ ap (λ bytes. c.add-10.new.out.items ++ take 3 (drop 1 bytes)) c.to_be_bytes-7.ensures) in
    let front_11 = front_10 ++ (bytes_high_first 3 ident.parn) in
    let out_12 = more old front_11 (bytes_high_first 3 ident.pard) c.add-11.new.out.items c.add-12.new.out.items out_11 (c.add-12.ensures.items ∙ ap (λ bytes. c.add-11.new.out.items ++ take 3 (drop 1 bytes)) c.to_be_bytes-8.ensures) in
    let front_12 = front_11 ++ (bytes_high_first 3 ident.pard) in
    let out_13 = more old front_12 (ident.cs ∷ []) c.add-12.new.out.items c.add-13.new.out.items out_12 c.add-13.ensures.items in
    let front_13 = front_12 ++ (ident.cs ∷ []) in
    let out_14 = more old front_13 (bytes_high_first 3 ident.nombr) c.add-13.new.out.items c.add-14.new.out.items out_13 (c.add-14.ensures.items ∙ ap (λ bytes. c.add-13.new.out.items ++ take 3 (drop 1 bytes)) c.to_be_bytes-9.ensures) in
    let front_14 = front_13 ++ (bytes_high_first 3 ident.nombr) in
    more old front_14 (bytes_high_first 2 last) c.add-14.new.out.items c.add-15.new.out.items out_14 (c.add-15.ensures.items ∙ ap (λ bytes. c.add-14.new.out.items ++ bytes) (c.to_be_bytes-10.ensures ∙ ap (bytes_high_first 2) low))
