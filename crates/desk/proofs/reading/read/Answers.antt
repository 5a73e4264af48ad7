use Rattle.std.proofs.Common.{◌≡◌, get_or, refl, arith}
use Rattle.desk.specs.Commands.{opens, admits, posts, returns, queries}
use Rattle.desk.proofs.Letters.{reads_kind}
use Rattle.desk.proofs.reading.read.Goals as goal

pub returns-in_ok-fields_text-in-79 : goal.returns-in_ok-fields_text-in-79
returns-in_ok-fields_text-in-79 c =
    let letter : get_or c.args.line.now 0 0 ≡ 79 = omega arith in
    record { fault_due_or_command = reads_kind opens 79 c.args.line.now _ c.read_open.result refl (omega arith) letter c.in_ok-fields_text-in-79.ensures.the_text_or_no_letter.0 c.in_ok-fields_text-in-79.ensures.the_text_or_no_letter.1 c.read_open.ensures.fault_due_or_command }

pub returns-in_ok-fields_text-in-65 : goal.returns-in_ok-fields_text-in-65
returns-in_ok-fields_text-in-65 c =
    let letter : get_or c.args.line.now 0 0 ≡ 65 = omega arith in
    record { fault_due_or_command = reads_kind admits 65 c.args.line.now _ c.read_admit.result refl (omega arith) letter c.in_ok-fields_text-in-65.ensures.the_text_or_no_letter.0 c.in_ok-fields_text-in-65.ensures.the_text_or_no_letter.1 c.read_admit.ensures.fault_due_or_command }

pub returns-in_ok-fields_text-in-71 : goal.returns-in_ok-fields_text-in-71
returns-in_ok-fields_text-in-71 c =
    let letter : get_or c.args.line.now 0 0 ≡ 71 = omega arith in
    record { fault_due_or_command = reads_kind posts 71 c.args.line.now _ c.read_post.result refl (omega arith) letter c.in_ok-fields_text-in-71.ensures.the_text_or_no_letter.0 c.in_ok-fields_text-in-71.ensures.the_text_or_no_letter.1 c.read_post.ensures.fault_due_or_command }

pub returns-in_ok-fields_text-in-82 : goal.returns-in_ok-fields_text-in-82
returns-in_ok-fields_text-in-82 c =
    let letter : get_or c.args.line.now 0 0 ≡ 82 = omega arith in
    record { fault_due_or_command = reads_kind returns 82 c.args.line.now _ c.read_return.result refl (omega arith) letter c.in_ok-fields_text-in-82.ensures.the_text_or_no_letter.0 c.in_ok-fields_text-in-82.ensures.the_text_or_no_letter.1 c.read_return.ensures.fault_due_or_command }

pub returns-in_ok-fields_text-in-81 : goal.returns-in_ok-fields_text-in-81
returns-in_ok-fields_text-in-81 c =
    let letter : get_or c.args.line.now 0 0 ≡ 81 = omega arith in
    record { fault_due_or_command = reads_kind queries 81 c.args.line.now _ c.read_query.result refl (omega arith) letter c.in_ok-fields_text-in-81.ensures.the_text_or_no_letter.0 c.in_ok-fields_text-in-81.ensures.the_text_or_no_letter.1 c.read_query.ensures.fault_due_or_command }
