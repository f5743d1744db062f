-- The log of a ring, one move longer.
use Rattle.std.proofs.Common.{◌≡◌, ℕ, ◌+◌, List, [], ◌∷◌, ◌++◌, sym, refl, ap, ◌∙◌, append_assoc, arith}
use Rattle.std.proofs.lemmas.List.{append-nil}
use Rattle.lane.specs.declared.moves.Move.{Move}
use Rattle.lane.specs.Moves.{count, is_send, is_take, is_port_look, is_intake_look, ContinuesBy}
use Rattle.lane.specs.Lane.{IsPrefix, OneLog}

-- how many moves of a kind a log has that is one move longer
more : (kind : Move → ℕ) (log : List Move) (move : Move) (n : ℕ) → count kind log ≡ n
    → count kind (log ++ move ∷ []) ≡ n + kind move
more kind [] move n is = omega (arith, is)
more kind (first ∷ log) move n is =
    let on = more kind log move (count kind log) refl in omega (arith, on, is)

-- it has as many of another kind
pub as_many_of : (kind : Move → ℕ) (log : List Move) (move : Move) (n : ℕ) → kind move ≡ 0 → count kind log ≡ n
    → count kind (log ++ move ∷ []) ≡ n
as_many_of kind log move n other is = omega (arith, more kind log move n is, other)

one_more : (kind : Move → ℕ) (log : List Move) (move : Move) (n m : ℕ) → m ≡ n + kind move → count kind log ≡ n
    → count kind (log ++ move ∷ []) ≡ m
one_more kind log move n m now is = more kind log move n is ∙ sym now

longer : (part log : List Move) (move : Move) → IsPrefix part log → IsPrefix part (log ++ move ∷ [])
longer part log move is =
    (is.0 ++ move ∷ [], ap (λ l. l ++ move ∷ []) is.1 ∙ append_assoc part is.0 (move ∷ []))

-- a log continues by a move, with all moves made before it
pub continues_by : (part log : List Move) (move : Move) → IsPrefix part log → ContinuesBy move part (log ++ move ∷ [])
continues_by part log move is = record { between = is.0; log = ap (λ l. l ++ move ∷ []) is.1 }

module _ (port intake : List Move) (sends port_looks takes intake_looks : ℕ)
    (h : OneLog port intake sends port_looks takes intake_looks) (move : Move) where
  -- the port makes the move
  pub by_port : (sends' looks' : ℕ) → sends' ≡ sends + is_send move → looks' ≡ port_looks + is_port_look move
      → is_take move ≡ 0 → is_intake_look move ≡ 0
      → OneLog (h.log ++ move ∷ []) intake sends' looks' takes intake_looks
  by_port sends' looks' sent looked no_take no_look =
      let all_sends = one_more is_send h.log move sends sends' sent h.of_sends.1 in
      let all_looks = one_more is_port_look h.log move port_looks looks' looked h.of_port_looks.1 in
      record {
        log = h.log ++ move ∷ [];
        of_port = ([], sym (append-nil (h.log ++ move ∷ [])));
        of_intake = longer intake h.log move h.of_intake;
        of_sends = (all_sends, all_sends);
        of_port_looks = (all_looks, all_looks);
        of_takes = (h.of_takes.0, as_many_of is_take h.log move takes no_take h.of_takes.1);
        of_intake_looks =
            (h.of_intake_looks.0, as_many_of is_intake_look h.log move intake_looks no_look h.of_intake_looks.1);
      }

  -- the intake makes the move
  pub by_intake : (takes' looks' : ℕ) → takes' ≡ takes + is_take move → looks' ≡ intake_looks + is_intake_look move
      → is_send move ≡ 0 → is_port_look move ≡ 0
      → OneLog port (h.log ++ move ∷ []) sends port_looks takes' looks'
  by_intake takes' looks' taken looked no_send no_look =
      let all_takes = one_more is_take h.log move takes takes' taken h.of_takes.1 in
      let all_looks = one_more is_intake_look h.log move intake_looks looks' looked h.of_intake_looks.1 in
      record {
        log = h.log ++ move ∷ [];
        of_port = longer port h.log move h.of_port;
        of_intake = ([], sym (append-nil (h.log ++ move ∷ [])));
        of_sends = (h.of_sends.0, as_many_of is_send h.log move sends no_send h.of_sends.1);
        of_port_looks =
            (h.of_port_looks.0, as_many_of is_port_look h.log move port_looks no_look h.of_port_looks.1);
        of_takes = (all_takes, all_takes);
        of_intake_looks = (all_looks, all_looks);
      }
