-- Two flows of the same parts are one value.
use Rattle.std.proofs.Common.{◌≡◌}
use Rattle.px_message.specs.declared.flow.Flow.{Flow}

-- the flow, built of its parts
abbrev built : Flow → Flow
built f = record {
  id = f.id;
  client = f.client;
  server = f.server;
  request = f.request;
  response = f.response;
  error = f.error;
  times = f.times;
  replayed = f.replayed;
  marked = f.marked;
  websocket = f.websocket;
  message = f.message;
  messages = f.messages;
}

pub flow_eq : (a b : Flow) → a.id ≡ b.id → a.client ≡ b.client → a.server ≡ b.server → a.request ≡ b.request →
    a.response ≡ b.response → a.error ≡ b.error → a.times ≡ b.times → a.replayed ≡ b.replayed → a.marked ≡ b.marked →
    a.websocket ≡ b.websocket → a.message ≡ b.message → a.messages ≡ b.messages → a ≡ b
flow_eq a b id client server request response error times replayed marked websocket message messages =
    let same : built a ≡ built b = cc in same
