use Rattle.std.proofs.Common.{◌-◌, arith}
use Rattle.thr_flags.proofs.WritingLemmas.{on_ok, row_few}
use Rattle.thr_flags.proofs.runs.RunCode.write_run.Goals as goal

pub returns-clause-few : goal.returns-clause-few
returns-clause-few c =
    let row = c.row_of-row.result in
    on_ok c.put-2.result (row_few row.front row.width row.n (c.args.run - row.least) _ c.args.w.now c.put.new.self c.put-2.new.self c.row_of-row.ensures.few c.in_ok-put.ensures.written) c.put-2.ensures.written

pub returns-clause-most : goal.returns-clause-most
returns-clause-most c =
    let row = c.row_of-row.result in
    on_ok c.put-2.result (row_few row.front row.width row.n (c.args.run - row.least) 18 c.args.w.now c.put.new.self c.put-2.new.self (omega (arith, c.row_of-row.ensures.small)) c.in_ok-put.ensures.written) c.put-2.ensures.written
