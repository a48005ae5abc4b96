use Rattle.px_said.proofs.SaysOne.{one_request, one_request_comes, one_response, one_response_comes}
use Rattle.px_said.proofs.laws.a_text_says_one_message.Goals as goal

pub returns-clause-requests : goal.returns-clause-requests
returns-clause-requests c = one_request

pub returns-clause-responses : goal.returns-clause-responses
returns-clause-responses c = one_response

pub returns-clause-streamed_requests : goal.returns-clause-streamed_requests
returns-clause-streamed_requests c = one_request_comes

pub returns-clause-streamed_responses : goal.returns-clause-streamed_responses
returns-clause-streamed_responses c = one_response_comes
