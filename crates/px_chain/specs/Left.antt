-- How many answers a stage can still ask for, if nothing more is taken.
use Rattle.std.specs.Prelude.{ℕ, ◌+◌, ◌-◌, ◌*◌}
use Rattle.px_chain.specs.Stages.{Doing, Stage, busy, coming_down, connection, given_body, given_head, idle, next, over, request_body, response_body, response_head, upgraded}

-- A flow asks four hooks and a dial at most: those from here on.
abbrev pub doing_left : Doing → ℕ
doing_left (request_body given most) = 4
doing_left (connection how) = 3
doing_left (response_head side how) = 2
doing_left (response_body side how most) = 1
doing_left (coming_down side how) = 0
doing_left (upgraded side) = 0
doing_left given_head = 2
doing_left given_body = 1

abbrev pub stage_left : Stage → ℕ
stage_left (idle at) = 5
stage_left (busy at flow doing) = doing_left doing
stage_left (next at) = 0
stage_left over = 0

-- those of the flows that may follow the one of this number
abbrev pub behind_left : ℕ → ℕ
behind_left index = 5 * (1000000 - index)

-- with those of the flows behind it; a conversation that has ended asks nothing more
abbrev pub stages_left : Stage → ℕ
stages_left (idle at) = behind_left at.flow + 5
stages_left (busy at flow doing) = behind_left at.flow + doing_left doing
stages_left (next at) = 0
stages_left over = 0
