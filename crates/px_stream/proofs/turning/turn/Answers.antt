use Rattle.px_stream.proofs.turning.turn.Goals as goal

pub returns-in-Idle-clause-gives : goal.returns-in-Idle-clause-gives
returns-in-Idle-clause-gives c = λ seen shows. rw c.in-Idle.is (c.turn_head.ensures.gives seen (rw c.in-Idle.is at shows.is_used) shows.is_closed)

pub returns-in-Idle-clause-leads : goal.returns-in-Idle-clause-leads
returns-in-Idle-clause-leads c = λ seen shows. rw c.in-Idle.is (c.turn_head.ensures.leads seen)

pub returns-in-RequestBody-clause-gives : goal.returns-in-RequestBody-clause-gives
returns-in-RequestBody-clause-gives c = λ seen shows. rw c.in-RequestBody.is (c.turn_body.ensures.gives seen (rw c.in-RequestBody.is at shows.is_used) shows.is_closed)

pub returns-in-RequestBody-clause-leads : goal.returns-in-RequestBody-clause-leads
returns-in-RequestBody-clause-leads c = λ seen shows. rw c.in-RequestBody.is (c.turn_body.ensures.leads seen)

pub returns-in-Connection-clause-gives : goal.returns-in-Connection-clause-gives
returns-in-Connection-clause-gives c = λ seen shows. rw c.in-Connection.is c.turn_dial.ensures.gives

pub returns-in-Connection-clause-leads : goal.returns-in-Connection-clause-leads
returns-in-Connection-clause-leads c = λ seen shows. rw c.in-Connection.is c.turn_dial.ensures.leads

pub returns-in-ResponseHead-clause-gives : goal.returns-in-ResponseHead-clause-gives
returns-in-ResponseHead-clause-gives c = λ seen shows. rw c.in-ResponseHead.is c.turn_answer.ensures.gives

pub returns-in-ResponseHead-clause-leads : goal.returns-in-ResponseHead-clause-leads
returns-in-ResponseHead-clause-leads c = λ seen shows. rw c.in-ResponseHead.is c.turn_answer.ensures.leads

pub returns-in-ResponseBody-clause-gives : goal.returns-in-ResponseBody-clause-gives
returns-in-ResponseBody-clause-gives c = λ seen shows. rw c.in-ResponseBody.is c.turn_returned.ensures.gives

pub returns-in-ResponseBody-clause-leads : goal.returns-in-ResponseBody-clause-leads
returns-in-ResponseBody-clause-leads c = λ seen shows. rw c.in-ResponseBody.is c.turn_returned.ensures.leads

pub returns-in-GivenHead-clause-gives : goal.returns-in-GivenHead-clause-gives
returns-in-GivenHead-clause-gives c = λ seen shows. rw c.in-GivenHead.is c.turn_given_head.ensures.gives

pub returns-in-GivenHead-clause-leads : goal.returns-in-GivenHead-clause-leads
returns-in-GivenHead-clause-leads c = λ seen shows. rw c.in-GivenHead.is c.turn_given_head.ensures.leads

pub returns-in-GivenBody-clause-gives : goal.returns-in-GivenBody-clause-gives
returns-in-GivenBody-clause-gives c = λ seen shows. rw c.in-GivenBody.is c.turn_given_body.ensures.gives

pub returns-in-GivenBody-clause-leads : goal.returns-in-GivenBody-clause-leads
returns-in-GivenBody-clause-leads c = λ seen shows. rw c.in-GivenBody.is c.turn_given_body.ensures.leads
