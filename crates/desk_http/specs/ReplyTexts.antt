-- The answer to a request, as HTTP/1.1 writes it.
use Rattle.std.specs.Prelude.{ℕ, Bool, true, List, [], ◌∷◌, ◌++◌, length, codes, decimal, if◌then◌else◌, ◌==◌}
use Rattle.act_model.specs.declared.reply.Reply.{Reply}
use Rattle.act_model.specs.Replies.{status_of, text_of}

-- the words beside a status (RFC 9110, and RFC 4918 for 507)
abbrev pub reason_of : ℕ → List ℕ
reason_of status =
    if status == 200 then codes "OK"
    else (if status == 400 then codes "Bad Request"
    else (if status == 401 then codes "Unauthorized"
    else (if status == 403 then codes "Forbidden"
    else (if status == 404 then codes "Not Found"
    else (if status == 409 then codes "Conflict"
    else (if status == 413 then codes "Content Too Large"
    else (if status == 422 then codes "Unprocessable Content"
    else (if status == 503 then codes "Service Unavailable"
    else codes "Insufficient Storage"))))))))

-- the end of a line
abbrev pub line_end : List ℕ
line_end = 13 ∷ 10 ∷ []

-- the field that says that no more answers come
abbrev pub closing_field : Bool → List ℕ
closing_field last = if last then codes "Connection: close\r\n" else []

-- the head of an answer: the status line, the length of the text, its type, where it is the last answer the closing
-- field, and an empty line
unfoldable pub answer_head : ℕ → ℕ → Bool → List ℕ
answer_head status size last =
    codes "HTTP/1.1 " ++ (decimal status ++ (32 ∷ (reason_of status ++ (codes "\r\nContent-Length: "
    ++ (decimal size ++ (codes "\r\nContent-Type: text/plain\r\n" ++ (closing_field last ++ line_end)))))))

-- the bytes of an answer
unfoldable pub answer_text : ℕ → List ℕ → Bool → List ℕ
answer_text status text last = answer_head status (length text) last ++ text

-- the answer of a reply
abbrev pub answer_of : Reply → Bool → List ℕ
answer_of reply last = answer_text (status_of reply) (text_of reply) last

-- the line that says that a head can't be read
abbrev pub unread_text : List ℕ
unread_text = codes "refused 1 Unread head\n"

-- the answer to bytes that are no request, after which no more answers come
abbrev pub unread_answer : List ℕ
unread_answer = answer_text 400 unread_text true
