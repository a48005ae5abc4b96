use Rattle.px_stream.proofs.looking.read_up.Goals as goal

pub returns-in_ok-part-in-GoingUp : goal.returns-in_ok-part-in-GoingUp
returns-in_ok-part-in-GoingUp c =
    rw c.in-GoingUp.is (record {
      gave = record { got = c.in_ok-part-in-GoingUp.part; next = c.in_ok-part-in-GoingUp.ensures.next; gives = c.in_ok-part-in-GoingUp.ensures.reads; stopped = c.in_ok-part-in-GoingUp.ensures.stopped };
      is_bad = c.fault_of.ensures;
    })
