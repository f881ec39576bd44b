use Rattle.chat.proofs.talking.hear.Goals as goal

pub returns : goal.returns
returns g c = record {
  event = record { at = c.min-now.result; octet = c.in-Ok.octet };
  hears = record {
    answer = c.in-Ok.ensures.answer;
    read = c.in-Ok.ensures.read;
    heard = c.in-Ok.ensures.heard;
    reading = c.now_ms.result;
    clock_read = c.now_ms.ensures;
    at = c.min-now.ensures;
  };
  takes = c.tell.ensures;
}
