use Rattle.px_chain.proofs.EarlyLaws.{bad_at_once, bad_before, bad_behind, bad_beside, bad_stays, good_finds, unsaid_body, unsaid_head}
use Rattle.px_chain.proofs.laws.a_bad_request_ends_its_flow.Goals as goal

pub returns-clause-awaited : goal.returns-clause-awaited
returns-clause-awaited c = λ made at flow side seen fault head body bad. bad_before made at flow side seen fault head body bad

pub returns-clause-kept : goal.returns-clause-kept
returns-clause-kept c = λ made at flow side most seen fault head body bad. bad_beside made at flow side most seen fault head body bad

pub returns-clause-behind : goal.returns-clause-behind
returns-clause-behind c = λ made at flow side seen fault head body bad. bad_behind made at flow side seen fault head body bad

pub returns-clause-interim : goal.returns-clause-interim
returns-clause-interim c = λ made at flow side seen. unsaid_head made at flow side seen

pub returns-clause-unsaid : goal.returns-clause-unsaid
returns-clause-unsaid c = λ made at flow side most seen. unsaid_body made at flow side most seen

pub returns-clause-at_once : goal.returns-clause-at_once
returns-clause-at_once c = λ made at flow side seen fault head body bad. bad_at_once made at flow side seen fault head body bad

pub returns-clause-at_its_byte : goal.returns-clause-at_its_byte
returns-clause-at_its_byte c = λ made at flow doing side seen more fault head body up quiet server shut bad. bad_stays made at flow doing side seen more fault head body up quiet server shut bad

pub returns-clause-otherwise : goal.returns-clause-otherwise
returns-clause-otherwise c = λ made at flow doing seen good. good_finds made at flow doing seen good
