-- A value has one spelling in each wire version, and no frame begins another.
use Rattle.std.proofs.Common.{◌≡◌, ℕ, List, ◌++◌, None, Ok, sym, ap, ◌∙◌, refl, arith}
use Rattle.std.specs.Prelude.{slice_index}
use Rattle.keyspace.specs.declared.batch.Batch.{Batch}
use Rattle.keyspace.specs.declared.reply.Reply.{Reply}
use Rattle.wire.specs.declared.version.WireVersion.{WireVersion}
use Rattle.wire.specs.declared.version.WireVersion.TheVariants.{One, Two}
use Rattle.wire.specs.Fields.{BatchFields, ReplyFields, batch_fields, reply_fields}
use Rattle.wire.specs.Spelling.{frame, batch_kind, batch_body, reply_body, SpellsBatch, SpellsReply}
use Rattle.wire.specs.Reading.{body_at, read_batch, read_reply, batch_fault, reply_fault, refusal}
use Rattle.wire.proofs.Steps.{ok_is}
use Rattle.wire.proofs.Again.{body_again, batch_frame_again}
use Rattle.wire.proofs.Replies.{reply_frame_again}
use Rattle.wire.proofs.Fields.{same_batch, same_reply}

batch_reads : (version : WireVersion) (bytes rest : List ℕ) (batch : Batch) → SpellsBatch version bytes batch
    → read_batch (bytes ++ rest) ≡ Ok (version, batch_fields batch)
batch_reads version bytes rest batch s =
    ap (λ (x : List ℕ). read_batch (x ++ rest)) s.text
    ∙ batch_frame_again version (batch_fields batch) rest s.holds s.short

pub one_batch : (v w : WireVersion) (x y s t : List ℕ) (a b : Batch) → SpellsBatch v x a → SpellsBatch w y b
    → x ++ s ≡ y ++ t → (v ≡ w) × (x ≡ y) × (a ≡ b)
one_batch v w x y s t a b p q e =
    let both : (v, batch_fields a) ≡ (w, batch_fields b) =
    ok_is (v, batch_fields a) (w, batch_fields b) (sym (batch_reads v x s a p) ∙ ap read_batch e
    ∙ batch_reads w y t b q) in
    let version = ap (λ (r : WireVersion × BatchFields). r.0) both in
    let fields = ap (λ (r : WireVersion × BatchFields). r.1) both in
    let text = p.text ∙ ap (λ (r : WireVersion × BatchFields). frame (batch_body r.0 r.1)) both
    ∙ sym q.text in
    (version, text, same_batch a b fields)

pub no_batch_fault : (v : WireVersion) (x s : List ℕ) (a : Batch) → SpellsBatch v x a
    → batch_fault (x ++ s) ≡ None
no_batch_fault v x s a p = ap refusal (batch_reads v x s a p)

reply_reads : (bytes rest : List ℕ) (reply : Reply) → SpellsReply bytes reply
    → read_reply (bytes ++ rest) ≡ Ok (reply_fields reply)
reply_reads bytes rest reply s = ap (λ (x : List ℕ). read_reply (x ++ rest)) s.text
    ∙ reply_frame_again (reply_fields reply) rest s.holds s.short

pub one_reply : (x y s t : List ℕ) (a b : Reply) → SpellsReply x a → SpellsReply y b → x ++ s ≡ y ++ t
    → (x ≡ y) × (a ≡ b)
one_reply x y s t a b p q e =
    let fields : reply_fields a ≡ reply_fields b =
    ok_is (reply_fields a) (reply_fields b) (sym (reply_reads x s a p) ∙ ap read_reply e
    ∙ reply_reads y t b q) in
    (p.text ∙ ap (λ (f : ReplyFields). frame (reply_body f)) fields ∙ sym q.text, same_reply a b fields)

pub no_reply_fault : (x s : List ℕ) (a : Reply) → SpellsReply x a → reply_fault (x ++ s) ≡ None
no_reply_fault x s a p = ap refusal (reply_reads x s a p)

batch_kind_first : (v : WireVersion) (a : BatchFields) → slice_index (batch_body v a) 0 ≡ batch_kind v
unfolding batch_body
batch_kind_first v a = refl

reply_is_kind_two : (a : ReplyFields) → slice_index (reply_body a) 0 ≡ 2
unfolding reply_body
reply_is_kind_two a = refl

kinds_differ : (v : WireVersion) (m n : ℕ) → m ≡ batch_kind v → n ≡ 2 → m ≡ n → ⊥
kinds_differ One m n p q e = omega arith
kinds_differ Two m n p q e = omega arith

-- the bodies of a batch and of a reply differ in their first byte
pub kinds_apart : (v : WireVersion) (x y s t : List ℕ) (a : Batch) (r : Reply) → SpellsBatch v x a
    → SpellsReply y r
    → x ++ s ≡ y ++ t → ⊥
kinds_apart v x y s t a r p q e =
    let batch = batch_body v (batch_fields a) in
    let reply = reply_body (reply_fields r) in
    let frames : frame batch ++ s ≡ frame reply ++ t =
    ap (λ (z : List ℕ). z ++ s) (sym p.text) ∙ e ∙ ap (λ (z : List ℕ). z ++ t) q.text in
    let bodies : batch ≡ reply =
    ok_is batch reply (sym (body_again batch s p.short) ∙ ap body_at frames ∙ body_again reply t q.short) in
    kinds_differ v (slice_index batch 0) (slice_index reply 0) (batch_kind_first v (batch_fields a))
    (reply_is_kind_two (reply_fields r)) (ap (λ (z : List ℕ). slice_index z 0) bodies)
