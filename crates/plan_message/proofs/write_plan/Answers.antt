-- Without room the answer is 14 and the buffer is as it was; with room no byte past the message changes.
use Rattle.std.proofs.Common.{arith}
use Rattle.plan_message.proofs.Answers.{gives_no_room, gives_length}
use Rattle.plan_message.proofs.write_plan.Goals as goal

pub returns-then-out-message_bytes : goal.returns-then-out-message_bytes
returns-then-out-message_bytes c = gives_no_room c.args.plan c.args.out.now (omega (arith, c.message_bytes.ensures))

pub returns : goal.returns
returns c = gives_length c.args.plan c.args.out.now (omega (arith, c.message_bytes.ensures)) c.put_plan.ensures
