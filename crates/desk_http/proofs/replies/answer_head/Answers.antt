use Rattle.std.proofs.Common.{◌≡◌, [], ◌∷◌, ◌++◌, codes, decimal, ap, ◌∙◌}
use Rattle.desk_http.specs.ReplyTexts.{line_end, answer_head}
use Rattle.desk_http.proofs.Written.{nine_put}
use Rattle.desk_http.proofs.replies.answer_head.Goals as goal

pub returns : goal.returns
unfolding answer_head
returns c =
    let status : c.as_slice.result.now ≡ decimal c.args.status = c.as_slice.ensures.value ∙ c.decimal-digits.ensures.text ∙ ap decimal c.from.ensures in
    let size : c.as_slice-2.result.now ≡ decimal c.args.size = c.as_slice-2.ensures.value ∙ c.decimal-length.ensures.text in
    nine_put c.new-head.result.items c.put.new.head.items c.put-2.new.head.items c.put-3.new.head.items c.put-4.new.head.items c.put-5.new.head.items c.put-6.new.head.items
    c.put-7.new.head.items c.put-8.new.head.items c.put-9.new.head.items
    (codes "HTTP/1.1 ") c.as_slice.result.now (32 ∷ []) c.reason_of.result.now (codes "\r\nContent-Length: ") c.as_slice-2.result.now
    (codes "\r\nContent-Type: text/plain\r\n") c.closing_field.result.now line_end
    c.new-head.ensures c.put.ensures.text c.put-2.ensures.text c.put-3.ensures.text c.put-4.ensures.text c.put-5.ensures.text c.put-6.ensures.text
    c.put-7.ensures.text c.put-8.ensures.text c.put-9.ensures.text
    ∙ (λ i. codes "HTTP/1.1 " ++ (status i ++ (32 ∷ (c.reason_of.ensures.words i ++ (codes "\r\nContent-Length: "
    ++ (size i ++ (codes "\r\nContent-Type: text/plain\r\n" ++ (c.closing_field.ensures.field i ++ line_end))))))))
