-- The proxies of a stream: what each was given. This project's own.
use Rattle.std.specs.Prelude.{◌≡◌, ℕ, ◌+◌, ◌⊎◌, true, false, ◌||◌, List, [], ◌∷◌, map, Option, None, Some, option_map, slice_get}
use Rattle.std.specs.List.{All}
use Rattle.keyspace.specs.declared.answer.Answer.{Answer}
use Rattle.keyspace.specs.declared.batch.Batch.{Batch}
use Rattle.lane.specs.Lane.{PortView, IntakeView, SameLane}
use Rattle.resolver.specs.declared.client.Client.{Client}
use Rattle.replay_stream.specs.declared.outlet.Outlet.{Outlet}
use Rattle.replay_stream.specs.declared.proxies.Proxy.{Proxy}
use Rattle.replay_stream.specs.declared.proxies.ProxyTask.{ProxyTask}
use Rattle.replay_stream.specs.declared.recorder.Recorder.{Recorder}
use Rattle.replay_stream.specs.declared.sender.Sent.{Sent}
use Rattle.replay_stream.specs.declared.streamed.Streamed.{Streamed}
use Rattle.replay_output.specs.declared.failures.ProxyFailure.{ProxyFailure}
use Rattle.replay_output.specs.declared.options.reports.Reports.{Reports}
use Rattle.replay_output.specs.declared.stream.AnswerError.TheVariants.{Write}
use Rattle.replay_stream.specs.Recorder.{WritesRecords, is_refused, is_unwritten, unwritten_cause}
use Rattle.replay_stream.specs.Sender.{HasSent}
use Rattle.replay_stream.specs.Sinks.{SinkState}

-- the parts of a proxy: its client, the reader of its file, which of its transactions report, and the writer of its records, if there is
-- one
pub record GivenProxy (S W : Type 0) : Type 0 where
  pub proxy : ℕ
  pub client : Client
  pub reader : S
  pub reports : Reports
  pub out : Option W

-- what its threads are given: the sender's port and reader, and which transactions report; the recorder's intake and writer
pub record GivenThreads (S W : Type 0) : Type 0 where
  pub requests : PortView Batch
  pub reader : S
  pub reports : Reports
  pub answers : Option (IntakeView Answer)
  pub out : Option W

module _ {S W : Type 0} where
  -- from this proxy on, each is given what is at its place
  abbrev pub given_proxies : Reports → ℕ → List Client → List S → List (Option W) → List (GivenProxy S W)
  given_proxies reports proxy (client ∷ clients) (reader ∷ readers) (out ∷ outs) =
      record { proxy = proxy; client = client; reader = reader; reports = reports; out = out }
      ∷ given_proxies reports (proxy + 1) clients readers outs
  given_proxies reports proxy (client ∷ clients) (reader ∷ readers) [] = []
  given_proxies reports proxy (client ∷ clients) [] outs = []
  given_proxies reports proxy [] readers outs = []

  -- what the threads of a task must get
  abbrev pub threads_by : {G : Type 0} → ProxyTask S W G → GivenThreads S W
  threads_by task = record {
    requests = task.sender.requests;
    reader = task.sender.reader;
    reports = task.sender.reports;
    answers = option_map (λ r. r.answers) task.recorder;
    out = option_map (λ r. r.out) task.recorder;
  }

  -- what the threads that were started have got
  abbrev pub threads_of : Proxy S W → GivenThreads S W
  threads_of proxy = record {
    requests = proxy.sender.handle.promise.requests.value;
    reader = proxy.sender.handle.promise.reader.value;
    reports = proxy.sender.handle.promise.reports;
    answers = option_map (λ r. r.handle.promise.answers.value) proxy.recorder;
    out = option_map (λ r. r.handle.promise.out.value) proxy.recorder;
  }

  -- what an outlet and its threads have of the proxy
  abbrev pub given_with : Outlet → GivenThreads S W → GivenProxy S W
  given_with outlet threads = record {
    proxy = outlet.proxy;
    client = record { requests = threads.requests; replies = outlet.replies };
    reader = threads.reader;
    reports = threads.reports;
    out = threads.out;
  }

  abbrev pub outlets_of : List (Proxy S W) → List Outlet
  outlets_of proxies = map (λ (p : Proxy S W). p.outlet) proxies

-- the ends of a new lane to a recorder, or none
abbrev pub AreNewEnds : Option (PortView Answer) → Option (IntakeView Answer) → Type 0
AreNewEnds None None = Unit {0}
AreNewEnds None (Some answers) = ⊥
AreNewEnds (Some records) None = ⊥
AreNewEnds (Some records) (Some answers) = SameLane records answers × (records.sent ≡ []) × (answers.taken ≡ [])

-- a new outlet, and what its recorder is given
pub record IsNewOutlet (outlet : Outlet) (answers : Option (IntakeView Answer)) : Type 0 where
  pub not_lost : outlet.lost ≡ false
  pub none_waits : outlet.waiting ≡ None
  pub ends : AreNewEnds outlet.records answers

-- the ends of one lane to a recorder, or none
abbrev pub AreEnds : Option (PortView Answer) → Option (IntakeView Answer) → Type 0
AreEnds None None = Unit {0}
AreEnds None (Some answers) = ⊥
AreEnds (Some records) None = ⊥
AreEnds (Some records) (Some answers) = SameLane records answers

-- What a recorder has done by the time its outlet has ended: it has taken all that was sent to it, and written records of it. `old` and
-- `new` are the port to it before and after both ends looked at each other.
abbrev pub JoinsRecorder : {W : Type 0} → (W → SinkState) → Option W → Option (IntakeView Answer)
    → Option (PortView Answer) → Option (PortView Answer) → Option (Recorder W) → Type 0
JoinsRecorder state_of (Some out) (Some answers) (Some old) (Some new) (Some recorder) =
    (new.sent ≡ old.sent) × (new.closed ≡ old.closed) × (recorder.answers.taken ≡ new.sent)
    × WritesRecords answers.taken recorder.answers.taken (state_of out) (state_of recorder.out) recorder.failure
JoinsRecorder state_of None None None None None = Unit {0}
JoinsRecorder state_of _ _ _ _ _ = ⊥

-- what was joined of a proxy
pub record Joined (W : Type 0) : Type 0 where
  pub sent : Sent
  pub outlet : Outlet
  pub recorder : Option (Recorder W)

module _ {S W : Type 0} (remaining : S → Option (List ℕ)) (state_of : W → SinkState) where
  -- what the threads of a proxy have done, and its outlet
  pub record HasJoined (outlet : Outlet) (threads : GivenThreads S W) (joined : Joined W) : Type 0 where
    pub sent : HasSent threads.reports (remaining threads.reader) threads.requests joined.sent
    pub outlet_is : joined.outlet ≡ record outlet { records = joined.outlet.records }
    pub recorder :
        JoinsRecorder state_of threads.out threads.answers outlet.records joined.outlet.records joined.recorder

  -- the same of a proxy whose threads were started
  abbrev pub IsJoined : Proxy S W → Joined W → Type 0
  IsJoined proxy joined = HasJoined proxy.outlet (threads_of proxy) joined

-- the client that is put together again
abbrev pub client_of : {W : Type 0} → Joined W → Client
client_of joined = record { requests = joined.sent.requests; replies = joined.outlet.replies }

-- what failed of the proxy
abbrev pub failure_with : {W : Type 0} → Joined W → ProxyFailure
failure_with joined = record {
  fault = joined.sent.fault;
  lost = joined.outlet.lost || is_refused (unwritten_cause joined.recorder);
}

-- it has sent all that it has read, or its records could not be written
abbrev pub SendsAll : {W : Type 0} → Joined W → Type 0
SendsAll joined = (joined.sent.unsent ≡ None) ⊎ (unwritten_cause joined.recorder ≡ Some Write)

-- one of them hands a batch back that could not be sent, and its records could be written
pub record LeavesUnsent {W : Type 0} (joined : List (Joined W)) : Type 0 where
  pub place : ℕ
  pub worker : Joined W
  pub at : slice_get joined place ≡ Some worker
  pub batch : Batch
  pub unsent : worker.sent.unsent ≡ Some batch

-- the outcome is of what was joined, each at its index
pub record IsStreamedOf {W : Type 0} (joined : List (Joined W)) (streamed : Streamed W) : Type 0 where
  pub clients : streamed.clients.items ≡ map client_of joined
  pub failures : streamed.failures.items ≡ map failure_with joined
  pub recorders : streamed.recorders.items ≡ map (λ j. j.recorder) joined
  pub unwritten : streamed.unwritten.items ≡ map (λ j. is_unwritten (unwritten_cause j.recorder)) joined
  pub all_sent : streamed.all_sent ≡ true → All SendsAll joined
  pub unsent : streamed.all_sent ≡ false → LeavesUnsent joined
